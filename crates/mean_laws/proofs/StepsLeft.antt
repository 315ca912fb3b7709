-- The steps left over all levels: no deed raises them, and a step that is counted lowers them.
use Rattle.std.proofs.Common.{◌≡◌, ℕ, zero, suc, ◌+◌, ◌<◌, ◌≤◌, arith, List, [], ◌∷◌, refl, Result, Ok, Err, Bool, true, false, if◌then◌else◌, ltb-true}
use Rattle.std.specs.Prelude.{slice_index_or, slice_set, nat_lt}
use Rattle.cl_tree.specs.declared.kinds.TrapCause.TheVariants.{Steps, Depth, Output, Frames}
use Rattle.cl_mean.specs.Value.{Value}
use Rattle.cl_mean.specs.State.{Object, Written, LevelState, silent, Fault, trap, no_such_object, Deed, fetch, store, make, put_byte, next_of, get_byte, count_step, begin_call, end_call, pay}

abbrev pub steps_in : List LevelState → ℕ
steps_in [] = 0
steps_in (l ∷ ls) = l.steps_left + steps_in ls

pub no_more : (n : ℕ) (s : List LevelState) (l : LevelState) → l.steps_left ≤ (slice_index_or s n silent).steps_left → steps_in (slice_set s n l) ≤ steps_in s
no_more n [] l h = omega arith
no_more zero (a ∷ s) l h = omega arith
no_more (suc n) (a ∷ s) l h = let i : steps_in (slice_set s n l) ≤ steps_in s = no_more n s l h in omega arith

pub fewer : (n : ℕ) (s : List LevelState) (l : LevelState) → l.steps_left < (slice_index_or s n silent).steps_left → steps_in (slice_set s n l) < steps_in s
fewer n [] l h = absurd (omega arith)
fewer zero (a ∷ s) l h = omega arith
fewer (suc n) (a ∷ s) l h = let i : steps_in (slice_set s n l) < steps_in s = fewer n s l h in omega arith

-- ---- deeds

abbrev pub FallsTo : {A : Type 0} → LevelState → Result (A × LevelState) Fault → Type 0
FallsTo l (Ok r) = r.1.steps_left ≤ l.steps_left
FallsTo l (Err fault) = Unit {0}

-- a deed that doesn't raise the steps left
abbrev pub Falls : {A : Type 0} → Deed A → Type 0
Falls f = (l : LevelState) → FallsTo l (f l)

falls_if : {A : Type 0} (c : Bool) (l : LevelState) (x : A × LevelState) (fault : Fault) → x.1.steps_left ≤ l.steps_left → FallsTo l (if c then Ok x else Err fault)
falls_if true l x fault h = h
falls_if false l x fault h = tt

pub fetch_falls : (n : ℕ) (path : List ℕ) → Falls (fetch n path)
unfolding fetch
fetch_falls n path l = falls_if _ l _ no_such_object (omega arith)

pub store_falls : (n : ℕ) (path : List ℕ) (v : Value) → Falls (store n path v)
unfolding store
store_falls n path v l = falls_if _ l _ no_such_object (omega arith)

pub make_falls : (o : Object) → Falls (make o)
unfolding make
make_falls o l = omega arith

next_falls : (i : List ℕ) → Falls (next_of i)
next_falls [] l = omega arith
next_falls (b ∷ bs) l = omega arith

pub get_falls : Falls get_byte
unfolding get_byte
get_falls l = next_falls l.input l

pub put_falls : (w : Written) → Falls (put_byte w)
unfolding put_byte
put_falls w l = falls_if _ l _ (trap Output) (omega arith)

pub begin_falls : Falls begin_call
unfolding begin_call
begin_falls l = falls_if _ l _ (trap Depth) (omega arith)

pub end_falls : Falls end_call
unfolding end_call
end_falls l = omega arith

pub pay_falls : (cost : ℕ) → Falls (pay cost)
unfolding pay
pay_falls cost l = falls_if _ l _ (trap Frames) (omega arith)

pub count_falls : Falls count_step
unfolding count_step
count_falls l = falls_if (nat_lt 0 l.steps_left) l _ (trap Steps) (omega arith)

-- a step that is counted leaves fewer
abbrev pub Lower : {A : Type 0} → LevelState → Result (A × LevelState) Fault → Type 0
Lower l (Ok r) = r.1.steps_left < l.steps_left
Lower l (Err fault) = Unit {0}

lower_if : {A : Type 0} (c : Bool) (l : LevelState) (x : A × LevelState) (fault : Fault) → (c ≡ true → x.1.steps_left < l.steps_left) → Lower l (if c then Ok x else Err fault)
lower_if true l x fault h = h refl
lower_if false l x fault h = tt

pub count_lowers : (l : LevelState) → Lower l (count_step l)
unfolding count_step
count_lowers l = lower_if (nat_lt 0 l.steps_left) l _ (trap Steps) (λ q. let p : 0 < l.steps_left = ltb-true 0 l.steps_left q in omega arith)
