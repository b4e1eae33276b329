-- The block that was picked.
use Rattle.flow_commands.specs.Block.{Origin}
use Rattle.flow_commands.specs.declared.block.PickedBlock.{PickedBlock}

-- the block, with its text and its number there
abbrev pub origin_of : PickedBlock → Origin
origin_of picked =
    record { text = picked.text.items; index = picked.index; count = picked.count; block = picked.block }
