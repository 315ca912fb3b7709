-- The theorem: all of a source.
use Rattle.std.proofs.Common.{◌≡◌, ◌==◌, ℕ, Bool, true, false, if◌then◌else◌, List, length, refl, sym, subst, ap, ◌∙◌, Some, Result, Ok, Err, IfOk, MatchResult, inl, inr}
use Rattle.cl_tree.specs.declared.tree.Program.{Program}
use Rattle.cl_mean.specs.declared.checked.Checked.{Checked}
use Rattle.cl_read.specs.Source.{ReadsWithin}
use Rattle.cl_read.proofs.One as front
use Rattle.cl_read.specs.declared.stop.ReadStop.{ReadStop}
use Rattle.cl_read.specs.declared.stop.ReadStop.TheVariants as front_stop
use Rattle.cl_form.specs.declared.stop.FormStop.{FormStop}
use Rattle.cl_form.specs.declared.stop.FormStop.TheVariants.{NoReading, NoMemory}
use Rattle.cl_form.specs.Stops.{of_front}
use Rattle.cl_form.specs.Form.{alone_program, pair_program, HasForm}
use Rattle.cl_form.specs.Reading.{Gives, read_alone, read_pair, read_program}
use Rattle.cl_form.proofs.Steps.{some_is}
use Rattle.cl_form.proofs.Programs.{read_alone_sound, read_alone_complete, read_pair_sound, read_pair_complete}

either : (source : List ℕ) (p : Program) (c : Checked) (b : Bool) → ReadsWithin source p → (if b then read_alone source p else read_pair source p) ≡ Some c → HasForm source c
either source p c true h e = inl (read_alone_sound source p c h e)
either source p c false h e = inr (read_pair_sound source p c h e)

-- A program that is read is of a form.
pub read_sound : (source : List ℕ) (p : Program) (c : Checked) → ReadsWithin source p → read_program source p ≡ Some c → HasForm source c
unfolding read_program
read_sound source p c h e = either source p c (length p.items == 2) h e

-- What is of a form is a program that is read.
record IsRead (source : List ℕ) (c : Checked) : Type 0 where
  program : Program
  reads : ReadsWithin source program
  read : read_program source program ≡ Some c

form_read : (source : List ℕ) (c : Checked) → HasForm source c → IsRead source c
unfolding read_program
form_read source c (inl h) = record { program = alone_program h.label h.level h.line h.second h.body; reads = h.reads; read = read_alone_complete source c h }
form_read source c (inr h) = record { program = pair_program h.names h.bodies; reads = h.reads; read = read_pair_complete source c h }

pub read_complete : (source : List ℕ) (p : Program) (c : Checked) → ReadsWithin source p → HasForm source c → read_program source p ≡ Some c
read_complete source p c h k =
    let r = form_read source c k in
    subst (λ (q : Program). read_program source q ≡ Some c) (front.one_reading source r.program p r.reads h) r.read

-- No source is two programs.
pub form_one : (source : List ℕ) (c d : Checked) → HasForm source c → HasForm source d → c ≡ d
form_one source c d h k =
    let r = form_read source c h in
    some_is c d (sym r.read ∙ read_complete source r.program d r.reads k)

-- what the reader of a program returns
pub code_found : (source : List ℕ) (p : Program) (r : Result Checked FormStop) → ReadsWithin source p → Gives (λ c. c) r (read_program source p) → IfOk r (λ c. HasForm source c)
code_found source p (Ok c) h g = read_sound source p c h g
code_found source p (Err e) h g = tt

pub code_only : (source : List ℕ) (p : Program) (r : Result Checked FormStop) → ReadsWithin source p → Gives (λ c. c) r (read_program source p)
    → (c : Checked) → HasForm source c → MatchResult r (λ x. x ≡ c) (λ e. e ≡ NoMemory)
code_only source p (Ok x) h g c k = some_is x c (sym g ∙ read_complete source p c h k)
code_only source p (Err NoMemory) h g c k = refl
code_only source p (Err NoReading) h g c k = let r = read_complete source p c h k in absurd cc

-- what a stop of the front end says
pub stop_only : (source : List ℕ) (s : ReadStop) → ((p : Program) → ReadsWithin source p → s ≡ front_stop.NoMemory) → (c : Checked) → HasForm source c → of_front s ≡ NoMemory
stop_only source s only c k = let r = form_read source c k in ap of_front (only r.program r.reads)
