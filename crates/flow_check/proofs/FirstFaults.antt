-- A fault with which a text is read is its first fault.
use Rattle.std.proofs.Common.{◌≡◌, ◌&&◌, nat_eq, nat_le, ℕ, zero, suc, ◌+◌, ◌-◌, Bool}
use Rattle.std.proofs.Common.{◌<◌, ◌^◌, false, cond}
use Rattle.std.proofs.Common.{List, [], ◌∷◌, ◌++◌, Option, Some, None, Result, Err, IfErr, refl, ap, sym}
use Rattle.std.proofs.Common.{subst, ◌∙◌, inl, inr, arith}
use Rattle.std.specs.Option.{option_map_or}
use Rattle.std.proofs.lemmas.Bool.{eqb-true, leb-true, eq-eqb, false≢true}
use Rattle.std.proofs.lemmas.Option.{none-some, same_Some}
use Rattle.std.proofs.lemmas.Result.{IfErr-weaker}
use Rattle.flow_shop.specs.Limits.{greatest_depth}
use Rattle.flow_shop.specs.Shop.{Shop, IsWithinLimits}
use Rattle.flow_shop.specs.Paths.{span}
use Rattle.flow_shop.specs.Sequences.{IsSequence, jobs_left, cut}
use Rattle.flow_shop.specs.SequenceFaults.{sequence_fault}
use Rattle.flow_shop.specs.Bound.{Bound, bound_of}
use Rattle.flow_shop.specs.declared.sequence.SequenceFault.{SequenceFault}
use Rattle.flow_shop.proofs.SequenceLemmas.{sequence-fault-none-is, is-fault-none}
use Rattle.flow_check.specs.Certificate.{Covers}
use Rattle.std.specs.Fmt.{decimal}
use Rattle.flow_check.specs.TextLines.{IsVersion, IsDepth}
use Rattle.flow_check.specs.TextLines.{line, spaced, title, upto_title, upto_sizes, upto_value, heading}
use Rattle.flow_check.specs.CertificateFaults.{HasFaultAmong, HasTreeFault, HasLineFault, HasFirstFault}
use Rattle.flow_check.specs.internal.Reading.{text_value, header_value, size_value, sequence_value, value_of}
use Rattle.flow_check.specs.internal.Reading.{first_line, on_line, numbers_in}
use Rattle.flow_check.specs.internal.ReadTrees.{cut_value}
use Rattle.flow_check.specs.internal.Reading.{version_of}
use Rattle.flow_check.specs.declared.fault.CheckFault.{CheckFault}
use Rattle.flow_check.specs.declared.fault.CheckFault.TheVariants.{Memory, Header, Size, Value, Sequence, NotAttained}
use Rattle.flow_check.specs.declared.fault.CheckFault.TheVariants.{Most, Tree, Weak, Low, End}
use Rattle.flow_check.proofs.Numbers.{Fit, numbers-sound, numbers-complete, spaced-plain}
use Rattle.flow_check.proofs.TreeFaults.{lines-have}
use Rattle.flow_check.proofs.ExactLines.{title-plain, title-known, known-title}
use Rattle.flow_check.proofs.Exact.{numbers-whole, size-true, size-fit}
use Rattle.flow_check.proofs.ExactLines.{value-plain, value-known, value-text}
use Rattle.flow_check.proofs.Exact.{sequence-fit, four, after_header, after_size, after_value}
use Rattle.flow_check.proofs.TextBegins.{inner, outer, same-line, no-line, begun, step, test}

-- the faults of the trees

abbrev IsOfTrees : CheckFault → Type 0
IsOfTrees (Tree place) = Unit {0}
IsOfTrees (Weak place) = Unit {0}
IsOfTrees (Low place) = Unit {0}
IsOfTrees End = Unit {0}
IsOfTrees fault = ⊥

-- a kind of faults that each of several texts has, where it has one
pub among-kind : (kind : CheckFault → Type 0) (lawful : ℕ → List ℕ → Type 0)
    (faulty : ℕ → List ℕ → CheckFault → Type 0) (fault : CheckFault) →
    ((job : ℕ) (text : List ℕ) → faulty job text fault → kind fault) → (jobs text : List ℕ) →
    HasFaultAmong lawful faulty jobs text fault → kind fault
among-kind kind lawful faulty fault each [] text h = absurd h
among-kind kind lawful faulty fault each (job ∷ jobs) text (inl h) = each job text h
among-kind kind lawful faulty fault each (job ∷ jobs) text (inr h) =
    among-kind kind lawful faulty fault each jobs h.1 h.4

tree-kind : (shop : Shop) (bound : Bound) (value place left : ℕ) (node text : List ℕ)
    (fault : CheckFault) → HasTreeFault shop bound value place left node text fault → IsOfTrees fault
tree-kind shop bound value place zero node text fault (inl h) = subst IsOfTrees (sym h.0) tt
tree-kind shop bound value place zero node text fault (inr h) = subst IsOfTrees (sym h.0) tt
tree-kind shop bound value place (suc left) node text fault (inl h) = subst IsOfTrees (sym h.0) tt
tree-kind shop bound value place (suc left) node text fault (inr (inl h)) = subst IsOfTrees (sym h.3) tt
tree-kind shop bound value place (suc left) node text fault (inr (inr h)) =
    among-kind IsOfTrees (λ job. Covers shop bound value left (node ++ job ∷ []))
    (λ job. HasTreeFault shop bound value place left (node ++ job ∷ [])) fault
    (λ job more bad. tree-kind shop bound value place left (node ++ job ∷ []) more fault bad)
    (jobs_left shop.jobs node) h.0 h.2

line-kind : (shop : Shop) (bound : Bound) (value left : ℕ) (prefixes : List (List ℕ)) (place : ℕ)
    (text : List ℕ) (fault : CheckFault) → HasLineFault shop bound value left prefixes place text fault →
    IsOfTrees fault
line-kind shop bound value left [] place text fault h = subst IsOfTrees (sym h.0) tt
line-kind shop bound value left (prefix ∷ prefixes) place text fault (inl h) =
    tree-kind shop bound value place left prefix text fault h
line-kind shop bound value left (prefix ∷ prefixes) place text fault (inr (tree, rest, is, covers, inl h)) =
    subst IsOfTrees (sym h.0) tt
line-kind shop bound value left (prefix ∷ prefixes) place text fault (inr (tree, rest, is, covers, inr h)) =
    line-kind shop bound value left prefixes (place + 1) h.0 fault h.2

-- what the lines before the trees say, where they are lawful
record Heads (shop : Shop) (text : List ℕ) (version depth value : ℕ) (sequence lines : List ℕ) : Type 0 where
  known : IsVersion version
  deep : IsDepth shop depth
  fits : value < 2 ^ 64
  whole : IsSequence shop.jobs sequence
  text_is : text ≡ heading shop version depth value sequence ++ lines

abbrev pub TreesHaveFault : Shop → List ℕ → CheckFault → Type 0
TreesHaveFault shop text fault =
    (version : ℕ) × (depth : ℕ) × (value : ℕ) × (sequence : List ℕ) × IsVersion version
    × IsDepth shop depth × (value < 2 ^ 64) × IsSequence shop.jobs sequence × (span shop sequence ≡ value)
    × (lines : List ℕ) × (text ≡ heading shop version depth value sequence ++ lines)
    × HasLineFault shop (bound_of version) value (shop.jobs - depth) (cut shop.jobs depth) 5 lines fault

of-trees : (shop : Shop) (text : List ℕ) (fault : CheckFault) → IsOfTrees fault →
    TreesHaveFault shop text fault → HasFirstFault shop text fault
of-trees shop text Memory is h = absurd is
of-trees shop text Header is h = absurd is
of-trees shop text Size is h = absurd is
of-trees shop text Value is h = absurd is
of-trees shop text Sequence is h = absurd is
of-trees shop text NotAttained is h = absurd is
of-trees shop text Most is h = absurd is
of-trees shop text (Tree place) is h = h
of-trees shop text (Weak place) is h = h
of-trees shop text (Low place) is h = h
of-trees shop text End is h = h

-- a fault that is read is the text's first: at the trees, at the line of the sequence, and after it

abbrev SequenceIn : Shop → Option (List ℕ) → List ℕ → Type 0
SequenceIn shop o jobs = IsSequence shop.jobs jobs × (o ≡ Some jobs)

sequence-step : (P : CheckFault → Type 0) (shop : Shop) (version depth value : ℕ)
    (rest : List ℕ) (o : Option (List ℕ)) → (((jobs : List ℕ) → SequenceIn shop o jobs → ⊥) → P Sequence) →
    ((jobs : List ℕ) → SequenceIn shop o jobs →
    IfErr (cond (nat_eq (span shop jobs) value) (cut_value shop version depth value rest) (Err NotAttained)) P) →
    IfErr (sequence_value shop version depth value rest o) P
sequence-step P shop version depth value rest None bad good = bad (λ jobs h. none-some jobs h.1)
sequence-step P shop version depth value rest (Some jobs) bad good =
    fine (sequence_fault shop.jobs jobs) refl
  where
    next : Result ℕ CheckFault
    next = cond (nat_eq (span shop jobs) value) (cut_value shop version depth value rest) (Err NotAttained)

    fine : (f : Option SequenceFault) → sequence_fault shop.jobs jobs ≡ f →
        IfErr (option_map_or (λ fault. Err Sequence) f next) P
    fine None e = good jobs (sequence-fault-none-is shop.jobs jobs e, refl)
    fine (Some f) e = bad (λ other h. none-some f (sym (is-fault-none shop.jobs jobs
        (subst (IsSequence shop.jobs) (sym (same_Some jobs other h.1)) h.0)) ∙ e))

attained-has : (shop : Shop) (text : List ℕ) (version depth value : ℕ) (sequence lines : List ℕ) →
    Heads shop text version depth value sequence lines →
    IfErr (cond (nat_eq (span shop sequence) value) (cut_value shop version depth value lines) (Err NotAttained))
    (λ fault. HasFirstFault shop text fault)
attained-has shop text version depth value sequence lines heads =
    test First NotAttained (cut_value shop version depth value lines) (nat_eq (span shop sequence) value)
    (λ other. (
      version,
      depth,
      value,
      sequence,
      heads.known,
      heads.deep,
      heads.fits,
      heads.whole,
      (lines, heads.text_is),
      λ same. false≢true (sym other ∙ eq-eqb (span shop sequence) value same),
    ))
    (λ same. IfErr-weaker (cut_value shop version depth value lines)
    (λ fault. HasLineFault shop (bound_of version) value (shop.jobs - depth) (cut shop.jobs depth) 5 lines fault)
    First
    (λ fault h. of-trees shop text fault
    (line-kind shop (bound_of version) value (shop.jobs - depth) (cut shop.jobs depth) 5 lines fault h) (
      version,
      depth,
      value,
      sequence,
      heads.known,
      heads.deep,
      heads.fits,
      heads.whole,
      eqb-true (span shop sequence) value same,
      lines,
      heads.text_is,
      h,
    ))
    (lines-have shop (bound_of version) value (shop.jobs - depth) (cut shop.jobs depth) 5 lines))
  where
    First : CheckFault → Type 0
    First fault = HasFirstFault shop text fault

sequence-has : (shop : Shop) (text : List ℕ) (version depth value : ℕ) (rest : List ℕ) → IsWithinLimits shop →
    IsVersion version → IsDepth shop depth → value < 2 ^ 64 → text ≡ upto_value shop version depth value ++ rest →
    IfErr (on_line Sequence (after_value shop version depth value) rest) (λ fault. HasFirstFault shop text fault)
sequence-has shop text version depth value rest limits known deep fits e =
    step First Sequence (λ r. after_value shop version depth value r.0 r.1) (first_line rest)
    (λ none. missing (λ jobs more is at. no-line rest (spaced jobs) more none
    (spaced-plain jobs (sequence-fit shop.jobs jobs limits.jobs is)) at))
    (λ r found. sequence-step First shop version depth value r.1 (numbers_in r.0)
    (λ none. missing (λ jobs more is at.
    let jobs_fit : Fit jobs = sequence-fit shop.jobs jobs limits.jobs is in
    let word : r.0 ≡ spaced jobs = same-line rest (spaced jobs) more r.0 r.1 found (spaced-plain jobs jobs_fit) at in
    none jobs (
      is,
      ap numbers_in word
          ∙ numbers-whole jobs (omega (arith, is.whole, limits.some_job)) jobs_fit,
    )))
    (λ jobs is. attained-has shop text version depth value jobs r.1 (record {
      known = known;
      deep = deep;
      fits = fits;
      whole = is.0;
      text_is = outer text (upto_value shop version depth value) rest (line (spaced jobs)) r.1 e
          (begun rest r.0 r.1 (spaced jobs) found
          (numbers-sound r.0 jobs is.1 (sequence-fit shop.jobs jobs limits.jobs is.0)));
    })))
  where
    First : CheckFault → Type 0
    First fault = HasFirstFault shop text fault

    missing : ((jobs more : List ℕ) → IsSequence shop.jobs jobs → rest ≡ line (spaced jobs) ++ more → ⊥) →
        HasFirstFault shop text Sequence
    missing none = (
      version,
      depth,
      value,
      known,
      deep,
      fits,
      (rest, e),
      λ jobs is b. none jobs b.0 is
          (inner text (upto_value shop version depth value) rest (line (spaced jobs)) b.0 e b.1),
    )

-- at the line of the value

value-has : (shop : Shop) (text : List ℕ) (version depth : ℕ) (rest : List ℕ) → IsWithinLimits shop →
    IsVersion version → IsDepth shop depth → text ≡ upto_sizes shop version depth ++ rest →
    IfErr (on_line Value (after_size shop version depth) rest) (λ fault. HasFirstFault shop text fault)
value-has shop text version depth rest limits known deep e =
    step First Value (λ r. after_size shop version depth r.0 r.1) (first_line rest)
    (λ none. missing (λ value more fits at. no-line rest (decimal value) more none (value-plain value fits) at))
    (λ r found. step First Value (λ value. on_line Sequence (after_value shop version depth value) r.1)
    (value_of (numbers_in r.0))
    (λ none. missing (λ value more fits at.
    let word : r.0 ≡ decimal value = same-line rest (decimal value) more r.0 r.1 found (value-plain value fits) at in
    none-some value (sym none ∙ ap (λ w. value_of (numbers_in w)) word ∙ value-known value fits)))
    (λ value is.
    let third = value-text r.0 value is in
    sequence-has shop text version depth value r.1 limits known deep third.0
    (outer text (upto_sizes shop version depth) rest (line (decimal value)) r.1 e
    (begun rest r.0 r.1 (decimal value) found third.1))))
  where
    First : CheckFault → Type 0
    First fault = HasFirstFault shop text fault

    missing : ((value : ℕ) (more : List ℕ) → value < 2 ^ 64 → rest ≡ line (decimal value) ++ more → ⊥) →
        HasFirstFault shop text Value
    missing none = (
      version,
      depth,
      known,
      deep,
      (rest, e),
      λ value fits b. none value b.0 fits
          (inner text (upto_sizes shop version depth) rest (line (decimal value)) b.0 e b.1),
    )

-- at the line of the sizes

abbrev size_test : Shop → Option (List ℕ) → Bool
size_test shop (Some (jobs ∷ machines ∷ depth ∷ [])) =
    nat_eq jobs shop.jobs && nat_eq machines shop.machines && nat_le depth shop.jobs && nat_le depth greatest_depth
size_test shop other = false

abbrev pub sizes : Shop → ℕ → List ℕ
sizes shop depth = shop.jobs ∷ shop.machines ∷ depth ∷ []

abbrev SizeIn : Shop → Option (List ℕ) → ℕ → Type 0
SizeIn shop o depth = IsDepth shop depth × (o ≡ Some (sizes shop depth))

unsized : (shop : Shop) (o : Option (List ℕ)) (depth : ℕ) → size_test shop o ≡ false → SizeIn shop o depth → ⊥
unsized shop o depth off h = false≢true (sym off ∙ ap (size_test shop) h.1 ∙ size-true shop depth h.0.0 h.0.1)

size-step : (P : CheckFault → Type 0) (shop : Shop) (version : ℕ) (rest : List ℕ)
    (o : Option (List ℕ)) →
    (((depth : ℕ) → SizeIn shop o depth → ⊥) → P Size) →
    ((depth : ℕ) → SizeIn shop o depth → IfErr (on_line Value (after_size shop version depth) rest) P) →
    IfErr (size_value shop version rest o) P
size-step P shop version rest None bad good = bad (λ depth. unsized shop None depth refl)
size-step P shop version rest (Some []) bad good = bad (λ depth. unsized shop (Some []) depth refl)
size-step P shop version rest (Some (a ∷ [])) bad good = bad (λ depth. unsized shop (Some (a ∷ [])) depth refl)
size-step P shop version rest (Some (a ∷ b ∷ [])) bad good =
    bad (λ depth. unsized shop (Some (a ∷ b ∷ [])) depth refl)
size-step P shop version rest (Some (a ∷ b ∷ d ∷ x ∷ xs)) bad good =
    bad (λ depth. unsized shop (Some (a ∷ b ∷ d ∷ x ∷ xs)) depth refl)
size-step P shop version rest (Some (a ∷ b ∷ d ∷ [])) bad good =
    test P Size (on_line Value (after_size shop version d) rest) (size_test shop (Some (a ∷ b ∷ d ∷ [])))
    (λ off. bad (λ depth. unsized shop (Some (a ∷ b ∷ d ∷ [])) depth off))
    (λ same.
    let t = four (nat_eq a shop.jobs) (nat_eq b shop.machines) (nat_le d shop.jobs) (nat_le d greatest_depth) same in
    good d (
      (leb-true d shop.jobs t.2, leb-true d greatest_depth t.3),
      ap (λ k. Some (k ∷ b ∷ d ∷ [])) (eqb-true a shop.jobs t.0)
          ∙ ap (λ k. Some (shop.jobs ∷ k ∷ d ∷ [])) (eqb-true b shop.machines t.1),
    ))

size-has : (shop : Shop) (text : List ℕ) (version : ℕ) (rest : List ℕ) → IsWithinLimits shop →
    IsVersion version →
    text ≡ upto_title version ++ rest →
    IfErr (on_line Size (after_header shop version) rest) (λ fault. HasFirstFault shop text fault)
size-has shop text version rest limits known e =
    step First Size (λ r. after_header shop version r.0 r.1) (first_line rest)
    (λ none. missing (λ depth more deep at. no-line rest (spaced (sizes shop depth)) more none
    (spaced-plain (sizes shop depth) (size-fit shop depth limits deep.1)) at))
    (λ r found. size-step First shop version r.1 (numbers_in r.0)
    (λ none. missing (λ depth more deep at.
    let fits : Fit (sizes shop depth) = size-fit shop depth limits deep.1 in
    let word : r.0 ≡ spaced (sizes shop depth) =
    same-line rest (spaced (sizes shop depth)) more r.0 r.1 found (spaced-plain (sizes shop depth) fits) at in
    none depth (deep, ap numbers_in word ∙ numbers-complete shop.jobs (shop.machines ∷ depth ∷ []) fits)))
    (λ depth is. value-has shop text version depth r.1 limits known is.0
    (outer text (upto_title version) rest (line (spaced (sizes shop depth))) r.1 e
    (begun rest r.0 r.1 (spaced (sizes shop depth)) found
    (numbers-sound r.0 (sizes shop depth) is.1 (size-fit shop depth limits is.0.1))))))
  where
    First : CheckFault → Type 0
    First fault = HasFirstFault shop text fault

    missing : ((depth : ℕ) (more : List ℕ) → IsDepth shop depth → rest ≡ line (spaced (sizes shop depth)) ++ more → ⊥) →
        HasFirstFault shop text Size
    missing none = (
      version,
      known,
      (rest, e),
      λ depth deep b. none depth b.0 deep
          (inner text (upto_title version) rest (line (spaced (sizes shop depth))) b.0 e b.1),
    )

-- at the first line
title-has : (shop : Shop) (text : List ℕ) → IsWithinLimits shop →
    IfErr (on_line Header (header_value shop) text) (λ fault. HasFirstFault shop text fault)
title-has shop text limits =
    step First Header (λ r. header_value shop r.0 r.1) (first_line text)
    (λ none version known b. no-line text (title version) b.0 none (title-plain version known) b.1)
    (λ r found. step First Header (λ version. on_line Size (after_header shop version) r.1) (version_of r.0)
    (λ none version known b.
    let word : r.0 ≡ title version =
    same-line text (title version) b.0 r.0 r.1 found (title-plain version known) b.1 in
    none-some version (sym none ∙ ap (version_of) word ∙ title-known version known))
    (λ version is.
    let titled = known-title r.0 version is in
    size-has shop text version r.1 limits titled.0 (begun text r.0 r.1 (title version) found titled.1)))
  where
    First : CheckFault → Type 0
    First fault = HasFirstFault shop text fault

pub first-has : (shop : Shop) (text : List ℕ) → IsWithinLimits shop →
    IfErr (text_value shop text) (λ fault. HasFirstFault shop text fault)
unfolding text_value
first-has shop text limits = title-has shop text limits
