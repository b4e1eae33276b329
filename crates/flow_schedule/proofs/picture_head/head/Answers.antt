use Rattle.std.proofs.Common.{◌≡◌, ◌∙◌, ℕ, ◌+◌, ◌*◌, List, [], ◌++◌, codes, flat_map, ap}
use Rattle.flow_shop.specs.Shop.{numbers}
use Rattle.flow_schedule.specs.Scale.{bottom_of}
use Rattle.flow_schedule.specs.PictureHead.{top_text, ticks_text, axis_name_text, machine_name_text}
use Rattle.flow_schedule.proofs.Texts.{text-next}
use Rattle.flow_schedule.proofs.picture_head.head.Goals as goal

pub returns : goal.returns
returns c =
    let top : ℕ → List ℕ = λ bottom. top_text c.args.instance.now c.args.makespan c.args.lower
    (9000 + c.args.breadth + 4500) (bottom + 3400) in
    let text : ℕ → ℕ → List ℕ = λ machines bottom. top bottom
    ++ ticks_text c.args.breadth c.args.makespan bottom c.args.step ++ axis_name_text bottom ++ flat_map
    machine_name_text (numbers 1 machines)
    ++ codes "<g text-anchor=\"middle\" font-size=\"1000\">\n" in
    let bottom : ℕ = 5900 + c.from.result * 3000 in
    let machines : c.machines-machines.result ≡ c.args.instance.now.machines = c.machines-machines.ensures.value in
    let one : c.push_top.new.out.items ≡ [] ++ top bottom =
    c.in_ok-push_top.ensures ∙ ap (λ list. list ++ top bottom) c.new-out.ensures.items in
    let two = text-next [] _ _ one c.in_ok-push_ticks.ensures in
    let three = text-next [] _ _ two c.in_ok-push_axis_name.ensures in
    let four = text-next [] _ _ three c.in_ok-push_machine_names.ensures in
    let all : c.extend_from_slice.new.self.items ≡ text c.machines-machines.result bottom =
    text-next [] _ _ four c.in_ok-extend_from_slice.ensures.items in
    all ∙ ap (λ k. text c.machines-machines.result (5900 + k * 3000)) (c.from.ensures ∙ machines)
    ∙ ap (λ k. text k (bottom_of c.args.instance.now.machines)) machines
