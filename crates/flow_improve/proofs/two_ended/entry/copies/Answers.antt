use Rattle.std.proofs.Common.{◌∷◌, [], length, ap, sym, subst, arith, length-append}
use Rattle.std.proofs.lemmas.List.Elements.{All-push}
use Rattle.flow_improve.specs.internal.Beams.{AreEntries, IsEntry}
use Rattle.flow_improve.proofs.two_ended.entry.copies.Goals as goal

pub entries-preserved : goal.entries-preserved
entries-preserved c =
    let shop = c.args.instance.now in
    let entries = c.entries.entries.items in
    let is = c.in_ok-push.ensures.items in
    record {
      entries = subst (AreEntries shop) (sym is)
          (All-push (λ entry. IsEntry shop entry) entries c.in_ok-copy.field-0 c.entries.invariant.entries
          c.in_ok-copy.ensures.entry);
      few = omega (
        arith,
        ap length is,
        length-append entries (c.in_ok-copy.field-0 ∷ []),
        c.entries-test.true,
        c.len.ensures,
        c.entries.entries.ok.0,
      );
    }
