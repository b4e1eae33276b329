use Rattle.std.proofs.Common.{◌∙◌, codes, sym}
use Rattle.flow_schedule.specs.Picture.{colour, is_on_path, outline_text}
use Rattle.flow_schedule.proofs.Texts.{style-plain, style-outlined}
use Rattle.flow_schedule.proofs.bar.push_style.Goals as goal

pub returns-in_ok-push_outline : goal.returns-in_ok-push_outline
returns-in_ok-push_outline c =
    style-outlined c.args.out.now.items c.extend_from_slice.new.self.items c.extend_from_slice-2.new.self.items
    c.push_outline.new.out.items (codes "\" height=\"2400\" fill=\"") c.colour.result.now
    (colour c.args.operation.now.place) (outline_text c.args.width)
    (is_on_path c.args.path.now c.args.operation.now) c.in_ok-extend_from_slice.ensures.items
    c.in_ok-extend_from_slice-2.ensures.items c.colour.ensures c.in_ok-push_outline.ensures
    (sym c.is_on_path.ensures ∙ c.if-is_on_path.true)

pub returns-else-is_on_path : goal.returns-else-is_on_path
returns-else-is_on_path c =
    style-plain c.args.out.now.items c.extend_from_slice.new.self.items c.extend_from_slice-2.new.self.items
    (codes "\" height=\"2400\" fill=\"") c.colour.result.now (colour c.args.operation.now.place)
    (outline_text c.args.width) (is_on_path c.args.path.now c.args.operation.now)
    c.in_ok-extend_from_slice.ensures.items c.in_ok-extend_from_slice-2.ensures.items c.colour.ensures
    (sym c.is_on_path.ensures ∙ c.if-is_on_path.false)
