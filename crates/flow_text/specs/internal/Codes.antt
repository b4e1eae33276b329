-- The sinks and sources over writers and readers as plain values, which the kit asks of a view with a type parameter.
use Rattle.std.specs.Prelude.{Bool, refl}
use Rattle.std.specs.Coded.{Coded, code_by, coded×, coded_bool}
use Rattle.flow_text.specs.Devices.{Writing, Reading}

-- two sinks over writers are equal where writer and refusal are
abbrev pub writing_code : {W : Type 0} → Coded W → Coded (Writing W)
writing_code {W} w =
    code_by (W × Bool) (coded× w coded_bool) (λ s. (s.writer, s.failed))
    (λ p. record { writer = p.0; failed = p.1 }) (λ _. refl)

-- two sources over readers are equal where reader, end and refusal are
abbrev pub reading_code : {R : Type 0} → Coded R → Coded (Reading R)
reading_code {R} r =
    code_by (R × (Bool × Bool)) (coded× r (coded× coded_bool coded_bool)) (λ s. (s.reader, (s.ended, s.failed)))
    (λ p. record { reader = p.0; ended = p.1.0; failed = p.1.1 }) (λ _. refl)
