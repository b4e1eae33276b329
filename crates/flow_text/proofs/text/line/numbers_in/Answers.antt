use Rattle.std.proofs.Common.{arith, ◌*◌, ◌+◌, unwrap_or, get_or, rules, sym, refl}
use Rattle.std.specs.Char.{digit_value}
use Rattle.flow_text.proofs.NumberLemmas.{numbers-close, numbers-skip, numbers-digit, small-push, large-all}
use Rattle.flow_text.proofs.NumberLemmas.{line_numbers-great, numbers_of-after, plain-more}
use Rattle.flow_text.proofs.text.line.numbers_in.Goals as goal
use Rattle.flow_text.proofs.text.line.numbers_in.Goals.{then-is_blank_byte+in-Some+in_ok-push-in-Some}
use Rattle.flow_text.proofs.text.line.numbers_in.Goals.{then-is_blank_byte+in-None}
use Rattle.flow_text.proofs.text.line.numbers_in.Goals.{else-is_blank_byte+then-is_ascii_digit+in-Some-with_digit}

pub loop-byte-init : goal.loop-byte-init
loop-byte-init c = record {
  plain = refl;
  split = rw c.clear.ensures.items (sym (numbers_of-after c.args.line.now));
  small = rw c.clear.ensures.items refl;
  begun_small = tt;
}

pub returns-in-None-with_digit : goal.returns-in-None-with_digit
returns-in-None-with_digit c =
    let i = c.loop-byte.byte-index in
    let n = unwrap_or c.loop-byte.begun 0 * 10 + digit_value (get_or c.args.line.now i 0) in
    let next = numbers-digit c.loop-byte.numbers.items _ c.args.line.now c.loop-byte.begun i c.loop-byte-test.true
    (search rules) c.loop-byte.invariant.split in
    let large = large-all _ _ c.args.line.now n i (rw (← c.unwrap_or.ensures) (omega
    (arith, c.in-None-with_digit.ensures))) next in
    λ _. line_numbers-great _ _ large c.fault_of_great.ensures.plain c.fault_of_great.ensures.other

pub loop-byte-preserved : goal.loop-byte-preserved
loop-byte-preserved c = elim c.if-is_blank_byte.branch [
  | then-is_blank_byte+in-Some+in_ok-push-in-Some w ↦ record {
    plain = plain-more c.args.line.now _ c.loop-byte-test.true (search rules) c.loop-byte.invariant.plain;
    split = rw (w.numbers-is, w.begun-is, w.in_ok-push-in-Some.ensures.items)
        (numbers-close _ _ c.args.line.now _ _ c.loop-byte-test.true (search rules)
        (rw w.in-Some.is at c.loop-byte.invariant.split));
    small = rw (w.numbers-is, w.in_ok-push-in-Some.ensures.items)
        (small-push c.loop-byte.numbers.items w.in-Some.number c.loop-byte.invariant.small
        (rw w.in-Some.is at c.loop-byte.invariant.begun_small));
    begun_small = rw w.begun-is tt;
  }
  | then-is_blank_byte+in-None w ↦ record {
    plain = plain-more c.args.line.now _ c.loop-byte-test.true (search rules) c.loop-byte.invariant.plain;
    split = rw (w.numbers-is, w.begun-is, w.in-None.is) (numbers-skip _ _ c.args.line.now _ c.loop-byte-test.true
        (search rules) (rw w.in-None.is at c.loop-byte.invariant.split));
    small = rw w.numbers-is c.loop-byte.invariant.small;
    begun_small = rw w.begun-is c.loop-byte.invariant.begun_small;
  }
  | else-is_blank_byte+then-is_ascii_digit+in-Some-with_digit w ↦ record {
    plain = plain-more c.args.line.now _ c.loop-byte-test.true (search rules) c.loop-byte.invariant.plain;
    split = rw (w.numbers-is, w.begun-is, w.in-Some-with_digit.ensures.1, w.unwrap_or.ensures)
        (numbers-digit _ _ c.args.line.now c.loop-byte.begun _ c.loop-byte-test.true
        (search rules) c.loop-byte.invariant.split);
    small = rw w.numbers-is c.loop-byte.invariant.small;
    begun_small = rw w.begun-is (omega (arith, w.in-Some-with_digit.ensures.0, w.in-Some-with_digit.ensures.1));
  }
]
