-- What workers find, and where it is put.
use Rattle.std.proofs.Common.{◌≡◌, ℕ, ◌<◌, List, All, length, slice_index_or, slice_set, option_to_list, IfSome}
use Rattle.std.proofs.Common.{Option, Some, None, [], inl, inr, ap, sym, ◌∙◌}
use Rattle.std.proofs.lemmas.Bool.{cases_eq}
use Rattle.std.proofs.lemmas.List.{get_or-set_same, get_or-set_other}
use Rattle.std.proofs.lemmas.List.Elements.{All-nil, All-cons}
use Rattle.flow_workers.specs.internal.Pieces.{Reading, dealt_met}
use Rattle.flow_workers.specs.internal.Replies.{StandsFor}
use Rattle.flow_workers.specs.declared.piece.Reply.{Reply}
use Rattle.flow_workers.specs.declared.piece.Dealt.{Dealt}
use Rattle.flow_workers.specs.declared.piece.Dealt.TheVariants.{Searched}

-- what holds of a value, where there is one
pub all-of-one : {X : Type 0} (P : X → Type 0) (one : Option X) → IfSome one P → All P (option_to_list one)
all-of-one P None holds = All-nil P
all-of-one P (Some x) holds = All-cons P x [] holds (All-nil P)

-- pieces of which one is put in its place stand for the same
pub put-same : {K : Type 0} (reading : Reading K) (first old : List (Dealt K)) (reply : Reply K) →
    StandsFor reading first reply → reply.place < length old →
    ((k : ℕ) (d : Dealt K) → k < length first →
    dealt_met reading (slice_index_or old k d) ≡ dealt_met reading (slice_index_or first k d)) →
    (k : ℕ) (d : Dealt K) → k < length first →
    dealt_met reading (slice_index_or (slice_set old reply.place (Searched reply.pieces)) k d)
    ≡ dealt_met reading (slice_index_or first k d)
put-same reading first old reply stands inside each k d within = elim (cases_eq k reply.place) [
  | inl same ↦
      ap (λ n. dealt_met reading (slice_index_or (slice_set old reply.place (Searched reply.pieces)) n d)) same
      ∙ ap (dealt_met reading) (get_or-set_same old reply.place (Searched reply.pieces) d inside)
      ∙ stands d ∙ sym (ap (λ n. dealt_met reading (slice_index_or first n d)) same)
  | inr not ↦
      ap (dealt_met reading) (get_or-set_other old reply.place k (Searched reply.pieces) d not) ∙ each k d within
]
