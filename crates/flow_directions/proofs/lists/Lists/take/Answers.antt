use Rattle.std.proofs.Common.{◌≡◌, ℕ, suc, ◌+◌, ◌-◌, ◌≤◌, List, ◌∷◌, length, drop, sym, ap, subst, ◌∙◌, arith}
use Rattle.std.proofs.lemmas.List.{drop-drop}
use Rattle.flow_shop.specs.Directions.{first_with, last_with}
use Rattle.flow_directions.specs.internal.Lists.{HasLists}
use Rattle.flow_directions.proofs.lists.Lists.take.Goals as goal

-- what is left of a list without a first job of its end is the rest of the end
end-taken : (jobs : List ℕ) (count size job : ℕ) (last : List ℕ) → suc size ≤ count →
    drop (count - suc size) jobs ≡ job ∷ last → drop (count - size) jobs ≡ last
end-taken jobs count size job last room ends =
    let next : count - size ≡ count - suc size + 1 = omega (arith, room) in
    ap (λ n. drop n jobs) next ∙ sym (drop-drop 1 (count - suc size) jobs) ∙ ap (drop 1) ends

pub returns-in-Back : goal.returns-in-Back
returns-in-Back c jobs first last job lists =
    let taken : HasLists jobs first (job ∷ last) c.args.self.now =
    subst (λ end. HasLists jobs (first_with end first job) (last_with end last job) c.args.self.now) c.in-Back.is
    lists in
    record {
      size = taken.size;
      first_count = taken.first_count;
      last_count = omega (arith, taken.last_count);
      room = omega (arith, taken.room);
      begins = taken.begins;
      ends = end-taken c.args.self.now.jobs.items jobs (length last) job last (omega (arith, taken.room)) taken.ends;
    }
