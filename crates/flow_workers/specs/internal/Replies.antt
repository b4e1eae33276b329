-- What workers find.
use Rattle.std.specs.Prelude.{◌≡◌, ◌<◌, List, length, slice_index_or}
use Rattle.flow_workers.specs.declared.piece.Reply.{Reply}
use Rattle.flow_workers.specs.declared.piece.Dealt.{Dealt}
use Rattle.flow_workers.specs.internal.Pieces.{Reading, dealt_met, pieces_met}

-- a reply is to a piece that was dealt
abbrev pub HasPlace : {K : Type 0} → List (Dealt K) → Reply K → Type 0
HasPlace dealt reply = reply.place < length dealt

-- what was found stands for the piece at its place
abbrev pub StandsFor : {K : Type 0} → Reading K → List (Dealt K) → Reply K → Type 0
StandsFor {K} reading dealt reply =
    (d : Dealt K) → pieces_met reading reply.pieces.items
    ≡ dealt_met reading (slice_index_or dealt reply.place d)
