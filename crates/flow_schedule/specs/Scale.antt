-- Where times and machines stand on the picture, in hundredths of a pixel, and the ticks of its time axis.
use Rattle.std.specs.Prelude.{ℕ, ◌≡◌, ◌≤◌, ◌+◌, ◌-◌, ◌*◌, ◌/◌, ◌^◌, ◌⊎◌, max}
use Rattle.flow_shop.specs.Shop.{Shop}

-- how wide the makespan is drawn: 3600 units for each job and each machine, and no less than 96000
abbrev pub breadth_of : Shop → ℕ
breadth_of shop = max 96000 ((shop.jobs + shop.machines) * 3600)

-- how wide a makespan is drawn at most, with room to spare (inner)
abbrev pub greatest_breadth : ℕ
greatest_breadth = 3000000

-- how far to the right a bar begins or ends at most, with room to spare (inner)
abbrev pub greatest_x : ℕ
greatest_x = 10000000000000000

-- how far down the rows end at most, with room to spare (inner)
abbrev pub greatest_bottom : ℕ
greatest_bottom = 1000000

-- where a time stands: time 0 at 9000
abbrev pub x_of : ℕ → ℕ → ℕ → ℕ
x_of breadth makespan time = 9000 + time * breadth / max 1 makespan

-- where the bars of a machine begin: each row has 3000 units, of which a bar has 2400
abbrev pub y_of : ℕ → ℕ
y_of machine = 6200 + (machine - 1) * 3000

-- where the rows of so many machines end
abbrev pub bottom_of : ℕ → ℕ
bottom_of machines = 5900 + machines * 3000

-- 1, 2 or 5 times a power of ten
pub record IsRound (number : ℕ) : Type 0 where
  pub exponent : ℕ
  pub leading : (number ≡ 10 ^ exponent) ⊎ (number ≡ 2 * 10 ^ exponent) ⊎ (number ≡ 5 * 10 ^ exponent)

-- the least round number that is no smaller
pub record IsRoundUp (number round : ℕ) : Type 0 where
  pub is : IsRound round
  pub enough : number ≤ round
  pub least : (other : ℕ) → IsRound other → number ≤ other → round ≤ other

-- how many steps the axis has at most: one for each 8000 units
abbrev pub steps_of : ℕ → ℕ
steps_of breadth = breadth / 8000

-- the time between two ticks of the axis: the least round number of which so many reach the makespan
pub record IsTickStep (makespan steps step : ℕ) : Type 0 where
  pub round : IsRound step
  pub enough : makespan ≤ step * steps
  pub least : (other : ℕ) → IsRound other → makespan ≤ other * steps → step ≤ other
