-- A level's own run looks at its own part of the start state alone, and at numbers alone: from two states in which the level is the
-- same but for labels, it sends the same frames, stands alike and meets the same ends, whatever it receives.
use Rattle.std.proofs.Common.{◌≡◌, ℕ, suc, List, [], ◌∷◌, ◌++◌, refl, subst, ap, map, ℤ, Bool, true, false, ◌==◌, ◌&&◌, eqb-true, true≢false, sym, if◌then◌else◌, Option, Some, None, inl, inr}
use Rattle.std.specs.Prelude.{codes}
use Rattle.cl_tree.specs.Words.{Word}
use Rattle.cl_mean.specs.declared.checked.Checked.{Checked}
use Rattle.cl_mean.specs.declared.outcome.End.{End}
use Rattle.cl_mean.specs.Value.{Labelled, bare}
use Rattle.cl_mean.specs.Shape.{kinds_of}
use Rattle.cl_mean.specs.State.{Written, State, level_in}
use Rattle.cl_mean.specs.Source.{Definition, Source, source_of, main_of, is_main_at, is_at, payload_of, function_named}
use Rattle.cl_mean.specs.Course.{Course, comes, stops, asks, Stop, Ask, Reply}
use Rattle.cl_mean.specs.Execution.{Ending}
use Rattle.cl_mean.specs.Calls.{far}
use Rattle.cl_mean.specs.Guarded.{Content, holds, blocked, broken}
use Rattle.cl_mean.specs.Meaning.{exit_of, end_by, exit_value, bound_of, main_run, main_course, output_bytes}
use Rattle.cl_mean.specs.Journal.{Frame, frame, Said, says_stop, message, numbers_of}
use Rattle.cl_mean.specs.LocalRun.{is_fitting, is_content, is_turn, Role, running, serving, Stand, rests, waits, over, LevelRun, stays, with_none_active, rested, ended, stand_after_stop, closes, exits, met, stand_of, said_of, ends_of, follows, row_at, function_served, serving_of, begins, answered, acts, acted, acted_all, began_in, state_at, output_at}
use Rattle.mean_laws.specs.Runs.{Never, SameStand, SameLocal}
use Rattle.mean_laws.proofs.Exits.{exit_like}
use Rattle.mean_laws.proofs.Alike.{Nums, Replies, Ends, by_states, ends_then, Endings, bound_same, MaybeKnown}
use Rattle.mean_laws.proofs.Expressions.{two_same}
use Rattle.mean_laws.proofs.Statements.{BytesAll}
use Rattle.mean_laws.proofs.FarCalls.{nums_refl}
use Rattle.mean_laws.proofs.SameLevel.{Agree, AtLevel, One, set_agrees}
use Rattle.mean_laws.proofs.Locality

pub numbers_same : (xs ys : List Labelled) → Nums xs ys → numbers_of xs ≡ numbers_of ys
numbers_same [] [] h = refl
numbers_same [] (y ∷ ys) h = absurd h
numbers_same (x ∷ xs) [] h = absurd h
numbers_same (x ∷ xs) (y ∷ ys) h = two_same (λ (n : ℤ) (ns : List ℤ). n ∷ ns) x.number y.number (numbers_of xs) (numbers_of ys) h.0 (numbers_same xs ys h.1)

module _ (L : ℕ) where
  abbrev pub Near : State → State → Type 0
  Near s t = AtLevel L s t

  abbrev pub Courses : Course (List Labelled) → Course (List Labelled) → Type 0
  Courses x y = Ends Near Never Nums x y

  abbrev pub Stands : Stand → Stand → Type 0
  Stands p q = SameStand L p q

  abbrev pub Locals : LevelRun → LevelRun → Type 0
  Locals l m = SameLocal L l m

  rested_near : (s t : State) → Near s t → Near (rested L s) (rested L t)
  rested_near s t h =
      let g : Agree (level_in s L) (level_in t L) = h.2 in
      set_agrees L s t (with_none_active (level_in s L)) (with_none_active (level_in t L)) h (record { objects = g.objects; input = g.input; output = g.output; steps_left = g.steps_left; active = refl; cost = g.cost })

  left_near : (role : Role) (s t : State) → Near s t → Stands (stand_after_stop L role s) (stand_after_stop L role t)
  left_near running s t h = h
  left_near (serving k) s t h = rested_near s t h

  ended_near : (role : Role) (s t : State) → Near s t → Stands (ended role s) (ended role t)
  ended_near running s t h = h
  ended_near (serving k) s t h = h

  exit_same : (xs ys : List Labelled) → Nums xs ys → exit_of xs ≡ exit_of ys
  exit_same [] [] h = refl
  exit_same [] (y ∷ ys) h = absurd h
  exit_same (x ∷ xs) [] h = absurd h
  exit_same (x ∷ xs) (y ∷ ys) h = ap (λ (n : ℤ). exit_of (bare n ∷ [])) h.0

  exits_same : (role : Role) (xs ys : List Labelled) → Nums xs ys → exits role xs ≡ exits role ys
  exits_same running xs ys h = ap met (exit_same xs ys h)
  exits_same (serving k) xs ys h = refl

  stand_near : (role : Role) (x y : Course (List Labelled)) → Courses x y → Stands (stand_of L role x) (stand_of L role y)
  stand_near role (comes xs s) (comes ys t) h = ended_near role s t h.1
  stand_near role (comes xs s) (stops k t) h = absurd h
  stand_near role (comes xs s) (asks b t g) h = absurd h
  stand_near role (stops j s) (comes ys t) h = absurd h
  stand_near role (stops j s) (stops k t) (inl h) = absurd h
  stand_near role (stops j s) (stops k t) (inr h) = left_near role s t h.1
  stand_near role (stops j s) (asks b t g) h = absurd h
  stand_near role (asks a s f) (comes ys t) h = absurd h
  stand_near role (asks a s f) (stops k t) h = absurd h
  stand_near role (asks a s f) (asks b t g) h = (refl, h.0, h.1, h.2)

  said_near : (role : Role) (x y : Course (List Labelled)) → Courses x y → said_of role x ≡ said_of role y
  said_near role (comes xs s) (comes ys t) h = ap (λ (ns : List ℤ). closes role (holds ns)) (numbers_same xs ys h.0)
  said_near role (comes xs s) (stops k t) h = absurd h
  said_near role (comes xs s) (asks b t g) h = absurd h
  said_near role (stops j s) (comes ys t) h = absurd h
  said_near role (stops j s) (stops k t) h = refl
  said_near role (stops j s) (asks b t g) h = absurd h
  said_near role (asks a s f) (comes ys t) h = absurd h
  said_near role (asks a s f) (stops k t) h = absurd h
  said_near role (asks a s f) (asks b t g) h = two_same (λ (k : ℕ) (ns : List ℤ). message k false (holds ns)) a.row b.row (numbers_of a.values) (numbers_of b.values) h.0.1 (numbers_same a.values b.values h.0.4)

  ends_near : (role : Role) (x y : Course (List Labelled)) → Courses x y → ends_of role x ≡ ends_of role y
  ends_near role (comes xs s) (comes ys t) h = exits_same role xs ys h.0
  ends_near role (comes xs s) (stops k t) h = absurd h
  ends_near role (comes xs s) (asks b t g) h = absurd h
  ends_near role (stops j s) (comes ys t) h = absurd h
  ends_near role (stops j s) (stops k t) (inl h) = absurd h
  ends_near role (stops j s) (stops k t) (inr h) = ap (λ (z : Stop). met (end_by z)) h.0
  ends_near role (stops j s) (asks b t g) h = absurd h
  ends_near role (asks a s f) (comes ys t) h = absurd h
  ends_near role (asks a s f) (stops k t) h = absurd h
  ends_near role (asks a s f) (asks b t g) h = refl

  -- A level that follows one of two courses that go side by side sends what it sends by the other.
  pub follows_near : (role : Role) (turn : ℕ) (l m : LevelRun) → l.sent ≡ m.sent → l.ends ≡ m.ends → (x y : Course (List Labelled)) → Courses x y → Locals (follows L role turn l x) (follows L role turn m y)
  follows_near role turn l m e i x y h = (
    stand_near role x y h,
    two_same (λ (fs : List Frame) (s : Said). fs ++ frame (suc turn) s ∷ []) l.sent m.sent (said_of role x) (said_of role y) e (said_near role x y h),
    two_same (λ (as' bs : List End). as' ++ bs) l.ends m.ends (ends_of role x) (ends_of role y) i (ends_near role x y h),
  )

  module _ (source : Source) (bound : ℕ) (Known : Definition → Type 0) (named : (name : Word) → MaybeKnown Known (function_named source.functions name)) (serves_here : (k : ℕ) (d : Definition) → function_served source L (row_at source.rows k) ≡ Some d → Known d × (d.level ≡ L)) where
    either_near : (q : Bool) (a b a' b' : LevelRun) → Locals a a' → Locals b b' → Locals (if q then a else b) (if q then a' else b')
    either_near true a b a' b' h k = h
    either_near false a b a' b' h k = k

    begins_near : (turn k : ℕ) (s t : State) (l m : LevelRun) → Near s t → l.sent ≡ m.sent → l.ends ≡ m.ends → (content : Content ℤ) (o : Option Definition) → ((d : Definition) → o ≡ Some d → Known d × (d.level ≡ L))
        → Locals (begins source bound L turn s l k content o) (begins source bound L turn t m k content o)
    begins_near turn k s t l m h e i (holds ns) (Some d) g =
        either_near (is_fitting (kinds_of (payload_of d false)) ns) (follows L (serving k) turn l (serving_of source bound d ns s)) (stays (rests s) l) (follows L (serving k) turn m (serving_of source bound d ns t)) (stays (rests t) m)
        (follows_near (serving k) turn l m e i (serving_of source bound d ns s) (serving_of source bound d ns t)
        (Locality.serving_local Never source L Known named bound bound (bound_same Never bound) d (g d refl).0 (g d refl).1 (map bare ns) (map bare ns) (nums_refl (map bare ns)) s t h))
        (h, e, i)
    begins_near turn k s t l m h e i (holds ns) None g = (h, e, i)
    begins_near turn k s t l m h e i blocked o g = (h, e, i)
    begins_near turn k s t l m h e i broken o g = (h, e, i)

    answered_near : (role : Role) (turn : ℕ) (s t : State) (f g : Reply → State → Course (List Labelled)) → Near s t → ((r q : Reply) → Replies r q → (s' t' : State) → Near s' t' → Courses (f r s') (g q t')) → (l m : LevelRun) → l.sent ≡ m.sent → l.ends ≡ m.ends
        → (content : Content ℤ) → Locals (answered L role turn s f l content) (answered L role turn t g m content)
    answered_near role turn s t f g h k l m e i (holds ns) = follows_near role turn l m e i (f (Some (map bare ns)) s) (g (Some (map bare ns)) t) (k (Some (map bare ns)) (Some (map bare ns)) (nums_refl (map bare ns)) s t h)
    answered_near role turn s t f g h k l m e i blocked = follows_near role turn l m e i (f None s) (g None t) (k None None tt s t h)
    answered_near role turn s t f g h k l m e i broken = (left_near role s t h, ap (λ (fs : List Frame). fs ++ frame (suc turn) (closes role broken) ∷ []) e, i)

    waits_near : (turn : ℕ) (l m : LevelRun) → l.sent ≡ m.sent → l.ends ≡ m.ends → (role role' : Role) (a b : Ask) (s t : State) (f g : Reply → State → Course (List Labelled)) → Stands (waits role a s f) (waits role' b t g) → (said : Said)
        → Locals (acts source bound L turn l (waits role a s f) said) (acts source bound L turn m (waits role' b t g) said)
    waits_near turn l m e i role role' a b s t f g h says_stop = (h.2, e, i)
    waits_near turn l m e i role role' a b s t f g h (message k false content) = (h, e, i)
    waits_near turn l m e i role role' a b s t f g h (message k true content) =
        subst (λ (z : Role). Locals (acts source bound L turn l (waits role a s f) (message k true content)) (acts source bound L turn m (waits z b t g) (message k true content))) h.0
        (subst (λ (z : Bool). Locals (acts source bound L turn l (waits role a s f) (message k true content)) (if z then answered L role turn t g m content else stays (waits role b t g) m))
        (two_same (λ (r : ℕ) (d : Definition). (k == r) && is_content (kinds_of (payload_of d true)) content) a.row b.row a.callee b.callee h.1.1 h.1.2)
        (either_near ((k == a.row) && is_content (kinds_of (payload_of a.callee true)) content) (answered L role turn s f l content) (stays (waits role a s f) l) (answered L role turn t g m content) (stays (waits role b t g) m)
        (answered_near role turn s t f g h.2 h.3 l m e i content) ((refl, h.1, h.2, h.3), e, i)))

    acts_near : (turn : ℕ) (l m : LevelRun) → l.sent ≡ m.sent → l.ends ≡ m.ends → (p q : Stand) → Stands p q → (said : Said) → Locals (acts source bound L turn l p said) (acts source bound L turn m q said)
    acts_near turn l m e i (over s) (over t) h said = (h, e, i)
    acts_near turn l m e i (rests s) (rests t) h says_stop = (h, e, i)
    acts_near turn l m e i (rests s) (rests t) h (message k false content) = begins_near turn k s t l m h e i content (function_served source L (row_at source.rows k)) (serves_here k)
    acts_near turn l m e i (rests s) (rests t) h (message k true content) = (h, e, i)
    acts_near turn l m e i (waits role a s f) (waits role' b t g) h said = waits_near turn l m e i role role' a b s t f g h said
    acts_near turn l m e i _ _ h said = absurd h

    pub acted_near : (l m : LevelRun) → Locals l m → (f : Frame) → Locals (acted source bound L l f) (acted source bound L m f)
    unfolding acted
    acted_near l m h f = either_near (is_turn f.turn) (acts source bound L f.turn l l.stand f.said) l (acts source bound L f.turn m m.stand f.said) m (acts_near f.turn l m h.1 h.2 l.stand m.stand h.0 f.said) h

    pub all_near : (fs : List Frame) (l m : LevelRun) → Locals l m → Locals (acted_all source bound L l fs) (acted_all source bound L m fs)
    unfolding acted_all
    all_near [] l m h = h
    all_near (f ∷ fs) l m h = all_near fs (acted source bound L l f) (acted source bound L m f) (acted_near l m h f)

  -- ---- what the others see

  bytes_same : (vs ws : List Written) → BytesAll vs ws → map (λ (w : Written). w.byte) vs ≡ map (λ (w : Written). w.byte) ws
  bytes_same [] [] h = refl
  bytes_same [] (w ∷ ws) h = absurd h
  bytes_same (v ∷ vs) [] h = absurd h
  bytes_same (v ∷ vs) (w ∷ ws) h = two_same (λ (b : ℕ) (bs : List ℕ). b ∷ bs) v.byte w.byte (map (λ (z : Written). z.byte) vs) (map (λ (z : Written). z.byte) ws) h.0 (bytes_same vs ws h.1)

  near_output : (s t : State) → Near s t → output_bytes (level_in s L) ≡ output_bytes (level_in t L)
  near_output s t h = let g : Agree (level_in s L) (level_in t L) = h.2 in bytes_same (level_in s L).output (level_in t L).output g.output

  stand_output : (p q : Stand) → Stands p q → output_bytes (level_in (state_at p) L) ≡ output_bytes (level_in (state_at q) L)
  stand_output (rests s) (rests t) h = near_output s t h
  stand_output (waits role a s f) (waits role' b t g) h = near_output s t h.2
  stand_output (over s) (over t) h = near_output s t h
  stand_output _ _ h = absurd h

  pub output_near : (l m : LevelRun) → Locals l m → output_at L l ≡ output_at L m
  output_near l m h = stand_output l.stand m.stand h.0

  -- ---- the whole run

  module _ (checked : Checked) (limit : ℕ) (Known : Definition → Type 0) (named : (name : Word) → MaybeKnown Known (function_named (source_of checked).functions name))
      (serves_here : (k : ℕ) (d : Definition) → function_served (source_of checked) L (row_at (source_of checked).rows k) ≡ Some d → Known d × (d.level ≡ L)) where
    exit_near : (a b : Ending) → Endings (One L) a b → (s t : State) → Near s t → Courses (exit_value a s) (exit_value b t)
    exit_near a b h = exit_like (by_states (AtLevel L) Never) (One L) a b h

    run_of_main : (o : Option Definition) → MaybeKnown Known o → is_at L o ≡ true → (s t : State) → Near s t → Courses (main_run (source_of checked) (far (source_of checked)) (bound_of checked limit) o s) (main_run (source_of checked) (far (source_of checked)) (bound_of checked limit) o t)
    run_of_main None kn e s t h = absurd (true≢false (sym e))
    run_of_main (Some d) kn e s t h =
        ends_then Near Never (Endings (One L)) Nums _ _ _ _
        (Locality.body_local Never (source_of checked) L Known named (bound_of checked limit) (bound_of checked limit) (bound_same Never (bound_of checked limit)) d kn (eqb-true d.level L e) [] [] tt s t h)
        exit_near

    main_near : is_main_at (source_of checked) L ≡ true → (s t : State) → Near s t → Courses (main_course checked (far (source_of checked)) (bound_of checked limit) s) (main_course checked (far (source_of checked)) (bound_of checked limit) t)
    unfolding main_course
    main_near e s t h = run_of_main (main_of (source_of checked)) (named (codes "main")) e s t h

    began_by : (q : Bool) → (q ≡ true → is_main_at (source_of checked) L ≡ true) → (s t : State) → Near s t
        → Locals (if q then follows L running 0 (record { stand = rests s; sent = []; ends = [] }) (main_course checked (far (source_of checked)) (bound_of checked limit) s) else record { stand = rests s; sent = []; ends = [] })
        (if q then follows L running 0 (record { stand = rests t; sent = []; ends = [] }) (main_course checked (far (source_of checked)) (bound_of checked limit) t) else record { stand = rests t; sent = []; ends = [] })
    began_by true g s t h = follows_near running 0 (record { stand = rests s; sent = []; ends = [] }) (record { stand = rests t; sent = []; ends = [] }) refl refl _ _ (main_near (g refl) s t h)
    began_by false g s t h = (h, refl, refl)

    -- From two start states in which the level is the same but for labels, whatever frames it receives: the same frames sent, the same
    -- ends, stands that go on the same; and so the same output.
    pub run_near : (s t : State) → Near s t → (fs : List Frame) → Locals (acted_all (source_of checked) (bound_of checked limit) L (began_in checked L limit s) fs) (acted_all (source_of checked) (bound_of checked limit) L (began_in checked L limit t) fs)
    run_near s t h fs = all_near (source_of checked) (bound_of checked limit) Known named serves_here fs (began_in checked L limit s) (began_in checked L limit t) (began_by (is_main_at (source_of checked) L) (λ e. e) s t h)
