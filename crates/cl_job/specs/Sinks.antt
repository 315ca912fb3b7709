-- What a sink tells after some pieces.
use Rattle.std.specs.Prelude.{◌≡◌, ℕ, List, ◌++◌, Option, option_map}

-- the sink, where it tells its bytes, has this text more
pub record Grew (text : List ℕ) (before now : Option (List ℕ)) : Type 0 where
  pub is : now ≡ option_map (λ bytes. bytes ++ text) before
