-- An image that asks with the next byte of its input, and leaves the number of the reply.
use Rattle.std.specs.Prelude.{[], ◌∷◌, Some}
use Rattle.cl_tree.specs.declared.kinds.IntKind.TheVariants.{I32}
use Rattle.en_image.specs.declared.image.Image.{Image}
use Rattle.en_image.specs.declared.instr.Instr.TheVariants as instr

-- one function, which is `main` and serves the only row; that row asks with an array of one `int`, and costs the
-- whole budget
abbrev pub asking : Image
asking = record {
  code = instr.Byte 33 2 ∷ instr.Get ∷ instr.Ask 0 4 ∷ instr.Return 1 ∷ [];
  functions = Some (record { at = 0; cells = 2; line = 1; params = 0; locals = 0 }) ∷ [];
  statics = [];
  rows = Some 0 ∷ [];
  main = Some 0;
  payloads = (record { request = I32 ∷ []; reply = I32 ∷ []; request_length = 8388554; reply_length = 4; arrays = 0 ∷ [] }) ∷ [];
}
