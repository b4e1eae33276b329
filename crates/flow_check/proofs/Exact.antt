-- A text is read as a value exactly where it is a lawful certificate of it.
use Rattle.std.proofs.Common.{◌≡◌, ◌&&◌, nat_eq, nat_le, ◌^◌, ℕ, ◌-◌, ◌<◌, ◌≤◌, Bool, true}
use Rattle.std.proofs.Common.{cond, List, []}
use Rattle.std.proofs.Common.{◌∷◌, ◌++◌, length, Option, Some, None, Result, Ok, Err, refl, ap, sym, subst, ◌∙◌}
use Rattle.std.proofs.Common.{arith, append_assoc}
use Rattle.std.specs.Option.{option_map_or}
use Rattle.std.specs.List.{flat_map}
use Rattle.std.proofs.lemmas.List.Elements.{recursion_from_All, All-weaker}
use Rattle.std.proofs.lemmas.Bool.{eqb-true, leb-true, le-leb, eq-eqb, and_parts}
use Rattle.flow_shop.specs.Limits.{most_jobs, most_machines, greatest_depth}
use Rattle.flow_shop.specs.Shop.{Shop, IsWithinLimits}
use Rattle.flow_shop.specs.Paths.{span}
use Rattle.flow_shop.specs.Sequences.{IsSequence, cut}
use Rattle.flow_shop.specs.SequenceFaults.{sequence_fault}
use Rattle.flow_shop.specs.declared.sequence.SequenceFault.{SequenceFault}
use Rattle.flow_shop.specs.Bound.{bound_of}
use Rattle.flow_shop.proofs.SequenceLemmas.{sequence-fault-none-is, is-fault-none}
use Rattle.flow_check.specs.Certificate.{Shows}
use Rattle.std.specs.Fmt.{decimal}
use Rattle.flow_check.specs.TextLines.{line, spaced, title, ending, certificate_text}
use Rattle.flow_check.specs.Certificate.{IsCertificate}
use Rattle.flow_check.specs.internal.Reading.{ValueIsExact, text_value, header_value, size_value, value_value}
use Rattle.flow_check.specs.internal.Reading.{sequence_value, value_of}
use Rattle.flow_check.specs.internal.ReadTrees.{cut_value}
use Rattle.flow_check.specs.internal.Reading.{on_line, numbers_in, version_of}
use Rattle.flow_check.specs.declared.fault.CheckFault.{CheckFault}
use Rattle.flow_check.specs.declared.fault.CheckFault.TheVariants.{Header, Size, Value, Sequence, NotAttained}
use Rattle.flow_check.proofs.TreesExact.{trees-sound, trees-complete, fault-value, passes}
use Rattle.flow_check.proofs.Numbers.{Fit, numbers-sound, numbers-complete, spaced-plain}
use Rattle.flow_check.proofs.ExactLines.{on-line-sound, on-line-complete, title-known, title-plain, known-title}
use Rattle.flow_check.proofs.ExactLines.{value-plain, value-known, value-text}

-- the lines that the form prescribes

abbrev pub after_header : Shop → ℕ → List ℕ → List ℕ → Result ℕ CheckFault
after_header shop version text more = size_value shop version more (numbers_in text)

abbrev pub after_size : Shop → ℕ → ℕ → List ℕ → List ℕ → Result ℕ CheckFault
after_size shop version depth text more = value_value shop version depth more (numbers_in text)

abbrev pub after_value : Shop → ℕ → ℕ → ℕ → List ℕ → List ℕ → Result ℕ CheckFault
after_value shop version depth value text more = sequence_value shop version depth value more (numbers_in text)

pub four : (a b c d : Bool) → (a && b && c && d) ≡ true → (a ≡ true) × (b ≡ true) × (c ≡ true) × (d ≡ true)
four a b c d e = let k = and_parts (a && b && c) d e in let l = and_parts (a && b) c k.0 in let m = and_parts a b l.0 in
    (m.0, m.1, l.1, k.1)

abbrev SizeOf : Shop → ℕ → List ℕ → Option (List ℕ) → ℕ → Type 0
SizeOf shop version rest o s = (depth : ℕ) × (o ≡ Some (shop.jobs ∷ shop.machines ∷ depth ∷ []))
    × (depth ≤ shop.jobs) × (depth ≤ greatest_depth)
    × (on_line Value (after_size shop version depth) rest ≡ Ok s)

size-sound : (shop : Shop) (version : ℕ) (rest : List ℕ) (o : Option (List ℕ)) (s : ℕ) →
    size_value shop version rest o ≡ Ok s → SizeOf shop version rest o s
size-sound shop version rest None s e = absurd (fault-value Size s e)
size-sound shop version rest (Some []) s e = absurd (fault-value Size s e)
size-sound shop version rest (Some (a ∷ [])) s e = absurd (fault-value Size s e)
size-sound shop version rest (Some (a ∷ b ∷ [])) s e = absurd (fault-value Size s e)
size-sound shop version rest (Some (a ∷ b ∷ d ∷ x ∷ xs)) s e = absurd (fault-value Size s e)
size-sound shop version rest (Some (a ∷ b ∷ d ∷ [])) s e =
    let p = passes (nat_eq a shop.jobs && nat_eq b shop.machines && nat_le d shop.jobs
    && nat_le d greatest_depth) (on_line Value (after_size shop version d) rest) Size s e in
    let t = four (nat_eq a shop.jobs) (nat_eq b shop.machines) (nat_le d shop.jobs) (nat_le d greatest_depth) p.0 in (
      d,
      ap (λ k. Some (k ∷ b ∷ d ∷ [])) (eqb-true a shop.jobs t.0)
          ∙ ap (λ k. Some (shop.jobs ∷ k ∷ d
          ∷ [])) (eqb-true b shop.machines t.1),
      leb-true d shop.jobs t.2,
      leb-true d greatest_depth t.3,
      p.1,
    )

-- a step of the reading that takes what was found, or else fails
found-sound : {A B : Type 0} (next : A → Result B CheckFault) (o : Option A) (fault : CheckFault) (s : B) →
    option_map_or next o (Err fault) ≡ Ok s → (found : A) × (o ≡ Some found) × (next found ≡ Ok s)
found-sound next None fault s e = absurd (fault-value fault s e)
found-sound next (Some found) fault s e = (found, refl, e)

no-fault : {A : Type 0} (o : Option SequenceFault) (next : Result A CheckFault) (s : A) →
    option_map_or (λ fault. Err Sequence) o next ≡ Ok s → (o ≡ None) × (next ≡ Ok s)
no-fault None next s e = (refl, e)
no-fault (Some fault) next s e = absurd (fault-value Sequence s e)

abbrev SequenceOf : Shop → ℕ → ℕ → ℕ → List ℕ → Option (List ℕ) → ℕ → Type 0
SequenceOf shop version depth value rest o s = (jobs : List ℕ) × (o ≡ Some jobs) × IsSequence shop.jobs jobs
    × (span shop jobs ≡ value) × (cut_value shop version depth value rest ≡ Ok s)

sequence-sound : (shop : Shop) (version depth value : ℕ) (rest : List ℕ) (o : Option (List ℕ)) (s : ℕ) →
    sequence_value shop version depth value rest o ≡ Ok s →
    SequenceOf shop version depth value rest o s
sequence-sound shop version depth value rest None s e = absurd (fault-value Sequence s e)
sequence-sound shop version depth value rest (Some jobs) s e =
    let next : Result ℕ CheckFault = cut_value shop version depth value rest in
    let p = no-fault (sequence_fault shop.jobs jobs) (cond (nat_eq (span shop jobs) value) next (Err NotAttained)) s
    e in
    let q = passes (nat_eq (span shop jobs) value) next NotAttained s p.1 in
    (jobs, refl, sequence-fault-none-is shop.jobs jobs p.0, eqb-true (span shop jobs) value q.0, q.1)

-- the lines in a row
pub glue : (a b c d f e : List ℕ) → a ++ 10 ∷ (b ++ 10 ∷ (c ++ 10 ∷ (d ++ 10 ∷ (f ++ e))))
    ≡ ((((line a ++ line b) ++ line c) ++ line d) ++ f) ++ e
glue a b c d f e = sym (
    append_assoc (((line a ++ line b) ++ line c) ++ line d) f e
    ∙ append_assoc ((line a ++ line b) ++ line c) (line d) (f ++ e)
    ∙ append_assoc (line a ++ line b) (line c) (line d ++ (f ++ e))
    ∙ append_assoc (line a) (line b) (line c ++ (line d ++ (f ++ e)))
    ∙ append_assoc a (10 ∷ []) (line b ++ (line c ++ (line d ++ (f ++ e))))
    ∙ ap (λ xs. a ++ 10 ∷ xs) (append_assoc b (10 ∷ []) (line c ++ (line d ++ (f ++ e))))
    ∙ ap (λ xs. a ++ 10 ∷ (b ++ 10 ∷ xs)) (append_assoc c (10 ∷ []) (line d ++ (f ++ e)))
    ∙ ap (λ xs. a ++ 10 ∷ (b ++ 10 ∷ (c ++ 10 ∷ xs))) (append_assoc d (10 ∷ []) (f ++ e))
    )

chain : (bytes a b c d f e p q r s after_a after_b after_c after_d : List ℕ) → bytes ≡ p ++ 10 ∷ after_a → p ≡ a →
    after_a ≡ q ++ 10 ∷ after_b → q ≡ b → after_b ≡ r ++ 10 ∷ after_c → r ≡ c →
    after_c ≡ s ++ 10 ∷ after_d → s ≡ d → after_d ≡ f ++ e →
    bytes ≡ ((((line a ++ line b) ++ line c) ++ line d) ++ f) ++ e
chain bytes a b c d f e p q r s after_a after_b after_c after_d h1 k1 h2 k2 h3 k3 h4 k4 h5 =
    h1 ∙ ap (λ x. x ++ 10 ∷ after_a) k1
    ∙ ap (λ x. a ++ 10 ∷ x) (h2 ∙ ap (λ x. x ++ 10 ∷ after_b) k2)
    ∙ ap (λ x. a ++ 10 ∷ (b ++ 10 ∷ x)) (h3 ∙ ap (λ x. x ++ 10 ∷ after_c) k3)
    ∙ ap (λ x. a ++ 10 ∷ (b ++ 10 ∷ (c ++ 10 ∷ x))) (h4 ∙ ap (λ x. x ++ 10 ∷ after_d) k4)
    ∙ ap (λ x. a ++ 10 ∷ (b ++ 10 ∷ (c ++ 10 ∷ (d ++ 10 ∷ x)))) h5
    ∙ glue a b c d f e

small-fit : (n : ℕ) → n ≤ most_jobs → n < 2 ^ 64
small-fit n h = omega arith

pub sequence-fit : (n : ℕ) (jobs : List ℕ) → n ≤ most_jobs → IsSequence n jobs → Fit jobs
sequence-fit n jobs limit is =
    recursion_from_All (λ job. job < 2 ^ 64) jobs
    (All-weaker (λ job. (1 ≤ job) × (job ≤ n)) (λ job. job < 2 ^ 64)
    (λ job h. small-fit job (omega (arith, h.1, limit))) jobs is.each.range)

pub size-fit : (shop : Shop) (depth : ℕ) → IsWithinLimits shop → depth ≤ greatest_depth →
    Fit (shop.jobs ∷ shop.machines ∷ depth ∷ [])
size-fit shop depth limits shallow =
    let jobs_limit : shop.jobs ≤ most_jobs = limits.jobs in
    let machines_limit : shop.machines ≤ most_machines = limits.machines in
    let depth_limit : depth ≤ greatest_depth = shallow in (
      small-fit shop.jobs jobs_limit,
      (
        small-fit shop.machines (omega (arith, machines_limit)),
        (
          small-fit depth (omega
              (arith, depth_limit)),
          tt,
        ),
      ),
    )

sound : (shop : Shop) (bytes : List ℕ) (s : ℕ) → IsWithinLimits shop →
    on_line Header (header_value shop) bytes ≡ Ok s → IsCertificate shop bytes s
sound shop bytes s limits e =
    let l1 = on-line-sound Header (header_value shop) bytes s e in
    let s1 = found-sound (λ version. on_line Size (after_header shop version) l1.1) (version_of l1.0) Header s
    l1.3 in
    let version : ℕ = s1.0 in
    let titled = known-title l1.0 version s1.1 in
    let l2 = on-line-sound Size (after_header shop version) l1.1 s s1.2 in
    let s2 = size-sound shop version l2.1 (numbers_in l2.0) s l2.3 in
    let depth : ℕ = s2.0 in
    let l3 = on-line-sound Value (after_size shop version depth) l2.1 s s2.4 in
    let s3 = found-sound (λ value. on_line Sequence (after_value shop version depth value) l3.1)
    (value_of (numbers_in l3.0)) Value s l3.3 in
    let third = value-text l3.0 s3.0 s3.1 in
    let l4 = on-line-sound Sequence (after_value shop version depth s3.0) l3.1 s s3.2 in
    let s4 = sequence-sound shop version depth s3.0 l4.1 (numbers_in l4.0) s l4.3 in
    let t = trees-sound shop (bound_of version) s3.0 (shop.jobs - depth) (cut shop.jobs depth) 5 l4.1 s s4.4 in
    let is : IsCertificate shop bytes s3.0 = (
      s4.0,
      (
        version,
        depth,
        t.0.0,
        record {
          known = titled.0;
          jobs_enough = s2.2;
          shallow = s2.3;
          fits = third.0;
          whole = s4.2;
          attained = s4.3;
          covered = t.0.2;
        },
        chain bytes (title version) (spaced (shop.jobs ∷ shop.machines ∷ depth
            ∷ [])) (decimal s3.0) (spaced s4.0) (flat_map line t.0.0)
            (line ending) l1.0 l2.0 l3.0 l4.0 l1.1 l2.1 l3.1 l4.1
            l1.2 titled.1
            l2.2 (numbers-sound l2.0 (shop.jobs ∷ shop.machines ∷ depth ∷ []) s2.1 (size-fit shop depth limits s2.3))
            l3.2 third.1
            l4.2 (numbers-sound l4.0 s4.0 s4.1 (sequence-fit shop.jobs s4.0 limits.jobs s4.2))
            t.0.1,
      ),
    ) in
    subst (IsCertificate shop bytes) t.1 is

pub numbers-whole : (ns : List ℕ) → 0 < length ns → Fit ns → numbers_in (spaced ns) ≡ Some ns
numbers-whole [] some h = absurd (omega arith)
numbers-whole (n ∷ ns) some h = numbers-complete n ns h

pub size-true : (shop : Shop) (depth : ℕ) → depth ≤ shop.jobs → depth ≤ greatest_depth →
    (nat_eq shop.jobs shop.jobs && nat_eq shop.machines shop.machines && nat_le depth shop.jobs
    && nat_le depth greatest_depth) ≡ true
size-true shop depth short shallow =
    ap (λ b. b && nat_eq shop.machines shop.machines && nat_le depth shop.jobs
    && nat_le depth greatest_depth) (eq-eqb shop.jobs shop.jobs refl)
    ∙ ap (λ b. b && nat_le depth shop.jobs && nat_le depth greatest_depth) (eq-eqb shop.machines shop.machines refl)
    ∙ ap (λ b. b && nat_le depth greatest_depth) (le-leb depth shop.jobs short)
    ∙ le-leb depth greatest_depth shallow

complete : (shop : Shop) (version depth value : ℕ) (sequence : List ℕ) (trees : List (List ℕ)) →
    IsWithinLimits shop → Shows shop version value depth sequence trees →
    on_line Header (header_value shop) (certificate_text shop version depth value sequence trees) ≡ Ok value
complete shop version depth value sequence trees limits shows =
    let size : List ℕ = spaced (shop.jobs ∷ shop.machines ∷ depth ∷ []) in
    let third : List ℕ = decimal value in
    let rest4 : List ℕ = flat_map line trees ++ line ending in
    let rest3 : List ℕ = spaced sequence ++ 10 ∷ rest4 in
    let rest2 : List ℕ = third ++ 10 ∷ rest3 in
    let rest1 : List ℕ = size ++ 10 ∷ rest2 in
    let size_fits : Fit (shop.jobs ∷ shop.machines ∷ depth ∷ []) = size-fit shop depth limits shows.shallow in
    let sequence_fits : Fit sequence = sequence-fit shop.jobs sequence limits.jobs shows.whole in
    let some_job : 1 ≤ shop.jobs = limits.some_job in
    let last : Result ℕ CheckFault = cut_value shop version depth value rest4 in
    ap (on_line Header (header_value shop)) (sym (glue (title version) size third (spaced sequence)
    (flat_map line trees) (line ending)))
    ∙ on-line-complete Header (header_value shop) (title version) rest1
    (title-plain version shows.known)
    ∙ ap (λ o. option_map_or (λ version. on_line Size (after_header shop version) rest1) o (Err Header))
    (title-known version shows.known)
    ∙ on-line-complete Size (after_header shop version) size rest2
    (spaced-plain (shop.jobs ∷ shop.machines ∷ depth ∷ []) size_fits)
    ∙ ap (size_value shop version rest2) (numbers-complete shop.jobs (shop.machines ∷ depth ∷ []) size_fits)
    ∙ ap (λ b. cond b (on_line Value (after_size shop version depth) rest2) (Err Size))
    (size-true shop depth shows.jobs_enough shows.shallow)
    ∙ on-line-complete Value (after_size shop version depth) third rest3 (value-plain value shows.fits)
    ∙ ap (λ o. option_map_or (λ s. on_line Sequence (after_value shop version depth s) rest3) o (Err Value))
    (value-known value shows.fits)
    ∙ on-line-complete Sequence (after_value shop version depth value) (spaced sequence) rest4
    (spaced-plain sequence sequence_fits)
    ∙ ap (sequence_value shop version depth value rest4) (numbers-whole sequence (omega
    (arith, shows.whole.whole, some_job)) sequence_fits)
    ∙ ap (λ o. option_map_or (λ fault. Err Sequence) o (cond (nat_eq (span shop sequence) value) last
    (Err NotAttained))) (is-fault-none shop.jobs sequence shows.whole)
    ∙ ap (λ b. cond b last (Err NotAttained)) (eq-eqb (span shop sequence) value shows.attained)
    ∙ trees-complete shop (bound_of version) value (shop.jobs - depth) (cut shop.jobs depth) 5 trees shows.covered

pub value_is_exact : ValueIsExact
unfolding text_value
value_is_exact shop bytes value limits = (
  λ e. sound shop bytes value limits e,
  λ is. ap (on_line Header (header_value shop)) is.1.4
      ∙ complete shop is.1.0 is.1.1 value is.0 is.1.2 limits is.1.3,
)
