use Rattle.std.proofs.Common.{append_assoc}
use Rattle.flow_commands.proofs.report.block_lines.Goals as goal

pub returns : goal.returns
returns c =
    rw (
      c.in_ok-extend_from_slice-3.ensures.items,
      c.in_ok-extend_from_slice-2.ensures.items,
      c.in_ok-extend_from_slice.ensures.items,
      c.as_slice-4.ensures.value,
      c.as_slice-3.ensures.value,
      c.as_slice-2.ensures.value,
      c.in_ok-lines.ensures,
      c.in_ok-size_lines.ensures,
      c.in_ok-times_line.ensures,
      c.in_ok-sum.ensures,
      c.as_slice.ensures.value,
    )
    (simp append_assoc)
