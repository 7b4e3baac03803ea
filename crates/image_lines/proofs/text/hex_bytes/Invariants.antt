use Rattle.std.proofs.Common.{◌≡◌, ◌++◌, take, vec_items, codes}
use Rattle.std.specs.List.{flat_map}
use Rattle.image_lines.specs.Texts.{hex_byte}
use Rattle.image_lines.proofs.text.hex_bytes.Given as goal

abbrev pub invariant-loop-byte : goal.invariant-loop-byte
invariant-loop-byte l = vec_items l.text ≡ codes "image" ++ flat_map hex_byte (take l.byte-index l.bytes)
