use Rattle.std.proofs.Common.{◌≡◌, ◌∙◌, ◌<◌, sym, ap, map, length, true}
use Rattle.std.proofs.lemmas.List.{get_or-map, length-map}
use Rattle.flow_tool.specs.Words.{asks_for_help}
use Rattle.flow_tool.proofs.words.ask_for_help.Goals as goal

pub returns-then-asks_for_help : goal.returns-then-asks_for_help
returns-then-asks_for_help g c _ =
    let words = c.args.words.now in
    let text = g.S.AsStr.text in
    let at = c.loop-word.word-index in
    let word = c.word-item.result in
    let within : at < length words = c.loop-word-test.true in
    let there : at < length (map text words) = rw (length-map words text) within in
    let found = get_or-map text words at word (text word) within ∙ ap text (sym c.word-item.is) in
    let asks : asks_for_help (text word) ≡ true =
    ap asks_for_help (sym c.as_str.ensures) ∙ sym c.asks_for_help.ensures ∙ c.if-asks_for_help.true in
    (at, text word, there, found, asks)
