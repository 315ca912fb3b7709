-- The journal grows by the frame of what crosses.
use Rattle.std.proofs.Common.{◌≡◌, ℕ, suc, ◌+◌, ◌≤◌, List, [], ◌∷◌, ◌++◌, length, false, true, ℤ, refl, ap, sym, ◌∙◌, append_assoc, arith, length-append, slice_get, Some}
use Rattle.std.proofs.lemmas.List.{append-nil}
use Rattle.byteorder.specs.Numbers.{length-bytes_high_first}
use Rattle.cl_tree.specs.declared.kinds.IntKind.TheVariants.{I32}
use Rattle.cl_tree.specs.declared.tree.CType.TheVariants.{outs-Integer}
use Rattle.rpc_codec.specs.declared.frame.Header.{Header}
use Rattle.rpc_codec.specs.declared.frame.TheConstants.{VALUES, BROKEN}
use Rattle.rpc_codec.specs.Frames.{header_bytes}
use Rattle.cl_mean.specs.declared.checked.Checked.{Checked}
use Rattle.cl_mean.specs.declared.checked.GedlRow.{GedlRow}
use Rattle.cl_run.specs.declared.crossing.Content.TheVariants.{Values, Broken}
use Rattle.cl_run.specs.declared.crossing.Crossing.{Crossing}
use Rattle.cl_run.specs.FormCalls.{crossing, kind_of, with_crossing}
use Rattle.cl_mean.specs.Journal.{frame_bytes, mux_of, payload_bytes, typ_of}
use Rattle.cl_run.specs.FormJournal.{frame_of, journal, journal_from, kinds_at, kinds_of}
use Rattle.hal_route.specs.Hal.{recorded}
use Rattle.cl_run.specs.declared.running.Running.{Running}
use Rattle.cl_run.specs.Runs.{IsServed}
use Rattle.cl_run.specs.Steps.{Crosses, IsPaid, IsReady, Stands, header_of, int_payload}
use Rattle.cl_run.proofs.Rows.{TheRow, the_row}

-- a header and its payload are a frame
frame_is : (h : Header) (payload : List ℕ) → h.sec ≡ h.mux → h.length ≡ length payload → header_bytes h ++ payload ≡ frame_bytes h.mux h.typ h.turn h.kind payload
unfolding header_bytes frame_bytes
frame_is h payload s l = rw (s, l) refl

pub header_long : (h : Header) → length (header_bytes h) ≡ 25
unfolding header_bytes
header_long h = refl

frame_long : (rows : List GedlRow) (turn : ℕ) (c : Crossing) → 1 ≤ length (frame_of rows turn c)
unfolding frame_bytes
frame_long rows turn c = simp (length-append, length-bytes_high_first) (omega arith)

more_from : (rows : List GedlRow) (turn : ℕ) (cs : List Crossing) (c : Crossing) → journal_from rows turn (cs ++ c ∷ []) ≡ journal_from rows turn cs ++ frame_of rows (length cs + turn) c
unfolding journal_from
more_from rows turn [] c = append-nil (frame_of rows turn c) ∙ ap (λ (t : ℕ). frame_of rows t c) (omega arith)
more_from rows turn (d ∷ cs) c =
    let turns : length cs + suc turn ≡ suc (length cs) + turn = omega arith in
    rw (more_from rows (suc turn) cs c, turns) (sym (append_assoc (frame_of rows turn d) (journal_from rows (suc turn) cs) (frame_of rows (suc (length cs) + turn) c)))

-- one more crossing is one more frame
journal_more : (rows : List GedlRow) (cs : List Crossing) (c : Crossing) → journal rows (cs ++ c ∷ []) ≡ journal rows cs ++ frame_of rows (length cs + 1) c
unfolding journal
journal_more rows cs c = more_from rows 1 cs c

count_from : (rows : List GedlRow) (turn : ℕ) (cs : List Crossing) → length cs ≤ length (journal_from rows turn cs)
unfolding journal_from
count_from rows turn [] = omega arith
count_from rows turn (c ∷ cs) = omega (arith, count_from rows (suc turn) cs, frame_long rows turn c, length-append (frame_of rows turn c) (journal_from rows (suc turn) cs))

-- no frame is empty
journal_count : (rows : List GedlRow) (cs : List Crossing) → length cs ≤ length (journal rows cs)
unfolding journal
journal_count rows cs = count_from rows 1 cs

-- the router of a run that stands is ready
pub ready : (checked : Checked) (run : Running) → Stands checked run → IsReady checked run.hal
ready checked run stands = record {
  channels = stands.channels;
  main = stands.main;
  room = (let r = stands.room in let c = stands.cost in omega arith);
  frames = rw (stands.frames, stands.journal) (journal_count checked.gedl.rows run.state.crossings);
}

-- what crossed is in the journal where its frame is
pub crosses : (checked : Checked) (c : Crossing) (h : Header) (payload : List ℕ) (before after : Running) → Stands checked before → IsPaid checked (25 + length payload) before → h.sec ≡ h.mux → h.length ≡ length payload → frame_bytes h.mux h.typ h.turn h.kind payload ≡ frame_of checked.gedl.rows (before.hal.frames + 1) c → after.state ≡ with_crossing before.state c → after.hal ≡ recorded before.hal (header_bytes h ++ payload) → Crosses checked before after c (25 + length payload)
crosses checked c h payload before after stands paid sec long frame state hal =
    let bytes = frame_is h payload sec long ∙ frame in
    let size : length (header_bytes h ++ payload) ≡ 25 + length payload = length-append (header_bytes h) payload ∙ ap (λ (n : ℕ). n + length payload) (header_long h) in
    let grown : length after.hal.journal ≡ length before.hal.journal + (25 + length payload) = rw hal (length-append before.hal.journal (header_bytes h ++ payload) ∙ ap (λ (n : ℕ). length before.hal.journal + n) size) in
    record {
      state = state;
      stands = record {
        levels = rw state stands.levels;
        channels = rw hal stands.channels;
        main = rw hal stands.main;
        journal = rw (hal, state, journal_more checked.gedl.rows before.state.crossings c, bytes, stands.journal, stands.frames) refl;
        frames = rw (hal, state, stands.frames, length-append before.state.crossings (c ∷ [])) refl;
        cost = rw state stands.cost;
        room = (let same = ap (λ (s : Rattle.cl_run.specs.declared.state.State.State). s.levels) state in rw (grown, same) paid);
      };
      journal = grown;
    }

-- the frame of a request
request_frame : (checked : Checked) (k turn : ℕ) (row : GedlRow) → TheRow checked k row → frame_bytes 1 (typ_of k false) turn VALUES [] ≡ frame_of checked.gedl.rows turn (crossing k false (Values []))
unfolding mux_of kinds_at payload_bytes
request_frame checked k turn row the = rw (the.rows, the.number, the.is.args) refl

-- the frame of a reply
reply_frame : (checked : Checked) (k turn : ℕ) (row : GedlRow) (n : ℤ) → TheRow checked k row → frame_bytes 1 (typ_of k true) turn VALUES (int_payload n) ≡ frame_of checked.gedl.rows turn (crossing k true (Values (n ∷ [])))
unfolding mux_of kinds_at kinds_of payload_bytes int_payload
reply_frame checked k turn row n the = rw (the.rows, the.number, the.is.result, outs-Integer I32) refl

broken_frame : (checked : Checked) (k turn : ℕ) (row : GedlRow) → TheRow checked k row → frame_bytes 1 (typ_of k true) turn BROKEN [] ≡ frame_of checked.gedl.rows turn (crossing k true Broken)
unfolding mux_of
broken_frame checked k turn row the = rw (the.rows, the.number) refl

pub request_crosses : (checked : Checked) (k : ℕ) (row : GedlRow) (before after : Running) → IsServed checked → slice_get checked.gedl.rows k ≡ Some row → Stands checked before → IsPaid checked 25 before → after.state ≡ with_crossing before.state (crossing k false (Values [])) → after.hal ≡ recorded before.hal (header_bytes (header_of before.hal k false VALUES 0)) → Crosses checked before after (crossing k false (Values [])) 25
request_crosses checked k row before after served at stands paid state hal =
    crosses checked _ (header_of before.hal k false VALUES 0) [] before after stands paid refl refl (request_frame checked k (before.hal.frames + 1) row (the_row checked k row served at)) state (hal ∙ ap (recorded before.hal) (sym (append-nil _)))

pub broken_crosses : (checked : Checked) (k : ℕ) (row : GedlRow) (before after : Running) → IsServed checked → slice_get checked.gedl.rows k ≡ Some row → Stands checked before → IsPaid checked 25 before → after.state ≡ with_crossing before.state (crossing k true Broken) → after.hal ≡ recorded before.hal (header_bytes (header_of before.hal k true BROKEN 0)) → Crosses checked before after (crossing k true Broken) 25
broken_crosses checked k row before after served at stands paid state hal =
    crosses checked _ (header_of before.hal k true BROKEN 0) [] before after stands paid refl refl (broken_frame checked k (before.hal.frames + 1) row (the_row checked k row served at)) state (hal ∙ ap (recorded before.hal) (sym (append-nil _)))

pub reply_crosses : (checked : Checked) (k : ℕ) (row : GedlRow) (n : ℤ) (before after : Running) → IsServed checked → slice_get checked.gedl.rows k ≡ Some row → Stands checked before → IsPaid checked 29 before → after.state ≡ with_crossing before.state (crossing k true (Values (n ∷ []))) → after.hal ≡ recorded before.hal (header_bytes (header_of before.hal k true VALUES 4) ++ int_payload n) → Crosses checked before after (crossing k true (Values (n ∷ []))) 29
unfolding int_payload payload_bytes
reply_crosses checked k row n before after served at stands paid state hal =
    crosses checked _ (header_of before.hal k true VALUES 4) (int_payload n) before after stands paid refl refl (reply_frame checked k (before.hal.frames + 1) row n (the_row checked k row served at)) state hal

-- a reply has an `int`
pub int_kind : (checked : Checked) (k : ℕ) (row : GedlRow) → IsServed checked → slice_get checked.gedl.rows k ≡ Some row → kind_of row.result ≡ I32
unfolding kind_of
int_kind checked k row served at = rw ((the_row checked k row served at).is.result, outs-Integer I32) refl
