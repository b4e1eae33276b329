use Rattle.std.proofs.Common.{◌≡◌, ◌+◌, ◌*◌, slice_index, ◌∙◌, arith}
use Rattle.std.proofs.lemmas.List.{get_or_append_left, get_or-append_right}
use Rattle.flow_nodes.proofs.TurnedTimes.{below-four}
use Rattle.flow_nodes.proofs.group.turn_four.Goals as goal

pub returns-clause-one : goal.returns-clause-one
returns-clause-one c =
    let lane = c.args.lane in
    let block = c.write_part-4.new.block in
    below-four (λ place. slice_index block (place * 16 + lane) ≡ slice_index c.args.one place)
    (c.write_part-4.ensures.before (0 * 16 + lane) (omega arith)
    ∙ c.write_part-3.ensures.before (0 * 16 + lane) (omega arith)
    ∙ c.write_part-2.ensures.before (0 * 16 + lane) (omega arith)
    ∙ c.write_part.ensures.each 0 (0 * 16 + lane) (omega arith) (omega arith)
    ∙ get_or_append_left c.args.one c.args.two 0 0 (omega (arith, c.requires.sizes.0)))
    (c.write_part-4.ensures.before (1 * 16 + lane) (omega arith)
    ∙ c.write_part-3.ensures.before (1 * 16 + lane) (omega arith)
    ∙ c.write_part-2.ensures.each 0 (1 * 16 + lane) (omega arith) (omega arith)
    ∙ get_or_append_left c.args.one c.args.two 0 1 (omega (arith, c.requires.sizes.0)))
    (c.write_part-4.ensures.before (2 * 16 + lane) (omega arith)
    ∙ c.write_part-3.ensures.each 0 (2 * 16 + lane) (omega arith) (omega arith)
    ∙ get_or_append_left c.args.one c.args.two 0 2 (omega (arith, c.requires.sizes.0)))
    (c.write_part-4.ensures.each 0 (3 * 16 + lane) (omega arith) (omega arith)
    ∙ get_or_append_left c.args.one c.args.two 0 3 (omega (arith, c.requires.sizes.0)))

pub returns-clause-two : goal.returns-clause-two
returns-clause-two c =
    let lane = c.args.lane in
    let block = c.write_part-4.new.block in
    below-four (λ place. slice_index block (place * 16 + (lane + 1)) ≡ slice_index c.args.two place)
    (c.write_part-4.ensures.before (0 * 16 + (lane + 1)) (omega arith)
    ∙ c.write_part-3.ensures.before (0 * 16 + (lane + 1)) (omega arith)
    ∙ c.write_part-2.ensures.before (0 * 16 + (lane + 1)) (omega arith)
    ∙ c.write_part.ensures.each 1 (0 * 16 + (lane + 1)) (omega arith) (omega arith)
    ∙ get_or-append_right c.args.one c.args.two 4 4 0 c.requires.sizes.0 (omega arith))
    (c.write_part-4.ensures.before (1 * 16 + (lane + 1)) (omega arith)
    ∙ c.write_part-3.ensures.before (1 * 16 + (lane + 1)) (omega arith)
    ∙ c.write_part-2.ensures.each 1 (1 * 16 + (lane + 1)) (omega arith) (omega arith)
    ∙ get_or-append_right c.args.one c.args.two 4 5 0 c.requires.sizes.0 (omega arith))
    (c.write_part-4.ensures.before (2 * 16 + (lane + 1)) (omega arith)
    ∙ c.write_part-3.ensures.each 1 (2 * 16 + (lane + 1)) (omega arith) (omega arith)
    ∙ get_or-append_right c.args.one c.args.two 4 6 0 c.requires.sizes.0 (omega arith))
    (c.write_part-4.ensures.each 1 (3 * 16 + (lane + 1)) (omega arith) (omega arith)
    ∙ get_or-append_right c.args.one c.args.two 4 7 0 c.requires.sizes.0 (omega arith))

pub returns-clause-three : goal.returns-clause-three
returns-clause-three c =
    let lane = c.args.lane in
    let block = c.write_part-4.new.block in
    below-four (λ place. slice_index block (place * 16 + (lane + 2)) ≡ slice_index c.args.three place)
    (c.write_part-4.ensures.before (0 * 16 + (lane + 2)) (omega arith)
    ∙ c.write_part-3.ensures.before (0 * 16 + (lane + 2)) (omega arith)
    ∙ c.write_part-2.ensures.before (0 * 16 + (lane + 2)) (omega arith)
    ∙ c.write_part.ensures.each 2 (0 * 16 + (lane + 2)) (omega arith) (omega arith)
    ∙ get_or_append_left c.args.three c.args.four 0 0 (omega (arith, c.requires.sizes.2)))
    (c.write_part-4.ensures.before (1 * 16 + (lane + 2)) (omega arith)
    ∙ c.write_part-3.ensures.before (1 * 16 + (lane + 2)) (omega arith)
    ∙ c.write_part-2.ensures.each 2 (1 * 16 + (lane + 2)) (omega arith) (omega arith)
    ∙ get_or_append_left c.args.three c.args.four 0 1 (omega (arith, c.requires.sizes.2)))
    (c.write_part-4.ensures.before (2 * 16 + (lane + 2)) (omega arith)
    ∙ c.write_part-3.ensures.each 2 (2 * 16 + (lane + 2)) (omega arith) (omega arith)
    ∙ get_or_append_left c.args.three c.args.four 0 2 (omega (arith, c.requires.sizes.2)))
    (c.write_part-4.ensures.each 2 (3 * 16 + (lane + 2)) (omega arith) (omega arith)
    ∙ get_or_append_left c.args.three c.args.four 0 3 (omega (arith, c.requires.sizes.2)))

pub returns-clause-four : goal.returns-clause-four
returns-clause-four c =
    let lane = c.args.lane in
    let block = c.write_part-4.new.block in
    below-four (λ place. slice_index block (place * 16 + (lane + 3)) ≡ slice_index c.args.four place)
    (c.write_part-4.ensures.before (0 * 16 + (lane + 3)) (omega arith)
    ∙ c.write_part-3.ensures.before (0 * 16 + (lane + 3)) (omega arith)
    ∙ c.write_part-2.ensures.before (0 * 16 + (lane + 3)) (omega arith)
    ∙ c.write_part.ensures.each 3 (0 * 16 + (lane + 3)) (omega arith) (omega arith)
    ∙ get_or-append_right c.args.three c.args.four 4 4 0 c.requires.sizes.2 (omega arith))
    (c.write_part-4.ensures.before (1 * 16 + (lane + 3)) (omega arith)
    ∙ c.write_part-3.ensures.before (1 * 16 + (lane + 3)) (omega arith)
    ∙ c.write_part-2.ensures.each 3 (1 * 16 + (lane + 3)) (omega arith) (omega arith)
    ∙ get_or-append_right c.args.three c.args.four 4 5 0 c.requires.sizes.2 (omega arith))
    (c.write_part-4.ensures.before (2 * 16 + (lane + 3)) (omega arith)
    ∙ c.write_part-3.ensures.each 3 (2 * 16 + (lane + 3)) (omega arith) (omega arith)
    ∙ get_or-append_right c.args.three c.args.four 4 6 0 c.requires.sizes.2 (omega arith))
    (c.write_part-4.ensures.each 3 (3 * 16 + (lane + 3)) (omega arith) (omega arith)
    ∙ get_or-append_right c.args.three c.args.four 4 7 0 c.requires.sizes.2 (omega arith))
