use Rattle.std.proofs.Common.{◌≡◌, ◌+◌, ◌-◌, [], ◌∷◌, ◌++◌, length, refl, ap, sym, ◌∙◌, subst}
use Rattle.std.proofs.Common.{arith, length-append}
use Rattle.std.specs.Prelude.{All}
use Rattle.std.proofs.lemmas.List.Elements.{All-nil, All-push}
use Rattle.flow_nodes.specs.Groups.{group_count}
use Rattle.flow_nodes.specs.Marks.{chosen}
use Rattle.flow_directions.specs.Search.{IsPart, parts_visits}
use Rattle.flow_directions.specs.internal.Levels.{first_of, jobs_of, last_of, met_with, names_at, names_of}
use Rattle.flow_directions.proofs.PackNames.{names-is}
use Rattle.flow_directions.proofs.PartSteps.{left-each, left-lists, left-met, left-stands, levels-jobs, met-node}
use Rattle.flow_directions.proofs.PartSteps.{node-part}
use Rattle.flow_directions.proofs.WalkSteps.{parts-more}
use Rattle.flow_directions.proofs.walk.parts_left.Goals as goal
use Rattle.flow_directions.proofs.walk.parts_left.Goals.{After-jobs_at}

pub levels-init : goal.levels-init
levels-init g c =
    let node = c.in_ok-node.field-0 in
    let tree = c.args.tree.now in
    let levels = c.args.levels.now.items in
    let pushed : c.push.new.self.items ≡ [] ++ node ∷ [] =
    c.in_ok-push.ensures.items ∙ ap (λ xs. xs ++ node ∷ []) c.in_ok-parts.ensures.items in
    record {
      left = refl;
      count = omega (arith, ap length pushed);
      stands = λ shop threshold first last is stands. stands;
      met = λ shop threshold first last is stands.
          ap (λ ps. met_with shop threshold (names_of tree.packs.items) (c.args.left + length levels) first last levels
          (parts_visits shop threshold ps)) pushed
          ∙ ap (met_with shop threshold (names_of tree.packs.items) (c.args.left + length levels) first last levels)
          (parts-more shop threshold [] node
          ∙ met-node shop threshold (first_of first levels) (last_of last levels) node
          (c.in_ok-node.ensures shop.jobs (first_of first levels) (last_of last levels) stands.has_lists));
      each = λ shop threshold first last is stands are.
          subst (All (IsPart shop)) (sym pushed) (All-push (IsPart shop) [] node (All-nil (IsPart shop))
          (node-part shop (first_of first levels) (last_of last levels) node
          (c.in_ok-node.ensures shop.jobs (first_of first levels) (last_of last levels) stands.has_lists)
          (levels-jobs shop threshold (names_of tree.packs.items) (c.args.left + length levels) first last levels
          stands.are_levels are)));
    }

pub take-requires : goal.take-requires
take-requires g c =
    let at = c.requires.at in
    let rest = c.pop.new.self.items in (
      at.0.jobs,
      first_of at.2 rest,
      last_of at.3 rest,
      c.in-Some.level.job,
      left-lists at.0 at.1 (names_of c.args.tree.now.packs.items) at.2 at.3
          (c.args.left + length c.args.levels.now.items) c.levels.lists c.levels.levels.items rest
          c.in-Some.level (c.levels.invariant.stands at.0 at.1 at.2 at.3 at.4 at.5) c.in-Some.ensures.items,
    )

pub children-requires : goal.children-requires
children-requires g c =
    let at = c.requires.at in
    let rest = c.pop.new.self.items in (
      at.0.jobs,
      first_of at.2 rest,
      last_of at.3 rest,
      c.take.ensures at.0.jobs (first_of at.2 rest) (last_of at.3 rest) c.in-Some.level.job
          (left-lists at.0 at.1 (names_of c.args.tree.now.packs.items) at.2 at.3
          (c.args.left + length c.args.levels.now.items) c.levels.lists c.levels.levels.items rest
          c.in-Some.level (c.levels.invariant.stands at.0 at.1 at.2 at.3 at.4 at.5) c.in-Some.ensures.items),
    )

pub levels-preserved : goal.levels-preserved
levels-preserved g c =
    let packs = c.args.tree.now.packs.items in
    let all = c.args.levels.now.items in
    let left = c.args.left + length all in
    let levels = c.levels.levels.items in
    let rest = c.pop.new.self.items in
    let level = c.in-Some.level in
    let here = c.levels.invariant in
    let parts = c.levels.parts.items in
    let part = c.in_ok-children.field-0 in
    let parted : levels ≡ rest ++ level ∷ [] = c.in-Some.ensures.items in
    let fewer : length levels ≡ length rest + 1 = ap length parted ∙ length-append rest (level ∷ []) in
    let pushed : c.push-in-Some.new.self.items ≡ parts ++ part ∷ [] = c.in_ok-push-2.ensures.items in
    let deep : c.levels.left + 1 ≡ left - length rest = omega (arith, here.left, fewer) in
    let groups = c.group_count.result in
    let pack = c.index.result.now in
    let names : pack.names.items ≡ names_at packs (groups - 1) =
    ap (λ p. p.names.items) c.index.ensures
    ∙ sym (names-is packs (groups - 1) pack (omega (arith, c.group_count.ensures, c.requires.few, here.left, fewer))) in
    let jobs : c.in_ok-jobs.jobs.items ≡ jobs_of (names_of packs) (left - length rest) level =
    c.in_ok-jobs.ensures
    ∙ ap (chosen level.rest.words) names
    ∙ ap (λ n. chosen level.rest.words (names_at packs (n - 1))) c.group_count.ensures
    ∙ ap (λ n. chosen level.rest.words (names_at packs (group_count n - 1))) deep in
    record {
      left = omega (arith, here.left, fewer);
      count = omega (arith, here.count, fewer, ap length pushed, length-append parts (part ∷ []));
      stands = λ shop threshold first last is stands.
          let before = here.stands shop threshold first last is stands in
          left-stands shop threshold (names_of packs) first last left c.levels.lists levels rest level before parted
          c.take.new.self
          (c.take.ensures shop.jobs (first_of first rest) (last_of last rest) level.job
          (left-lists shop threshold (names_of packs) first last left c.levels.lists levels rest level before parted));
      met = λ shop threshold first last is stands.
          let before = here.stands shop threshold first last is stands in
          let lists = c.take.ensures shop.jobs (first_of first rest) (last_of last rest) level.job
          (left-lists shop threshold (names_of packs) first last left c.levels.lists levels rest level before parted) in
          ap (λ ps. met_with shop threshold (names_of packs) left first last rest (parts_visits shop threshold ps)) pushed
          ∙ left-met shop threshold (names_of packs) first last left c.levels.lists levels rest level before parted parts
          part c.in_ok-jobs.jobs.items jobs
          (c.in_ok-children.ensures shop.jobs (first_of first rest) (last_of last rest) lists)
          ∙ here.met shop threshold first last is stands;
      each = λ shop threshold first last is stands are.
          let before = here.stands shop threshold first last is stands in
          let lists = c.take.ensures shop.jobs (first_of first rest) (last_of last rest) level.job
          (left-lists shop threshold (names_of packs) first last left c.levels.lists levels rest level before parted) in
          subst (All (IsPart shop)) (sym pushed)
          (left-each shop threshold (names_of packs) first last left c.levels.lists levels rest level before parted parts
          part c.in_ok-jobs.jobs.items jobs
          (c.in_ok-children.ensures shop.jobs (first_of first rest) (last_of last rest) lists) are
          (here.each shop threshold first last is stands are));
    }
