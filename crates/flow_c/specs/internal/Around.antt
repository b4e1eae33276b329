-- Two-ended certificates that are put together from a text with no directions.
use Rattle.std.specs.Prelude.{ℕ, ◌-◌, List, ◌++◌, length, take, drop}

-- how many bytes stand behind the directions: the end of their line, and the last line
abbrev pub behind : ℕ
behind = 5

-- a text with no directions, once they are put in
abbrev pub with_directions : List ℕ → List ℕ → List ℕ
with_directions around directions =
    take (length around - behind) around ++ directions ++ drop (length around - behind) around
