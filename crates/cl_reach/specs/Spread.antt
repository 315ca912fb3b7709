-- What one node passes on to the nodes behind it.
use Rattle.std.specs.Prelude.{◌≡◌, ℕ, ◌+◌, ◌-◌, ◌^◌, ◌≤◌, ◌⊎◌, List, length, slice_index_or, Contains}
use Rattle.std.specs.List.{sum_by}
use Rattle.std.specs.Int.{bit_at}
use Rattle.cl_reach.specs.Reach.{Has}

-- how much words can still grow
unfoldable pub slack : List ℕ → ℕ
slack words = sum_by (λ w. 2 ^ 64 - w) words

-- the targets got the bits of a word: the words and the queue before, and after
pub record PassesOn (targets : List ℕ) (word : ℕ) (old new : List ℕ) (queue queue' : List ℕ) : Type 0 where
  pub same_length : length new ≡ length old
  pub only : (k x : ℕ) → Has new k x → Has old k x ⊎ ((bit_at word k ≡ 1) × Contains targets x)
  pub kept : (k x : ℕ) → Has old k x → Has new k x
  pub given : (k x : ℕ) → bit_at word k ≡ 1 → Contains targets x → Has new k x
  pub waits : (x : ℕ) → Contains queue x → Contains queue' x
  pub changed : (x : ℕ) → (slice_index_or new x 0 ≡ slice_index_or old x 0) ⊎ Contains queue' x
  pub within : (x : ℕ) → Contains queue' x → Contains queue x ⊎ Contains targets x
  pub falls : slack new + length queue' ≤ slack old + length queue
