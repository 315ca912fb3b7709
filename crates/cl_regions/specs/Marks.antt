-- What is kept of the items of a program: each with what is kept of its labels.
use Rattle.std.specs.Prelude.{◌≡◌, ◌≤◌, ℕ, List, ◌++◌, map, length, drop}
use Rattle.cl_tree.specs.Words.{Word}
use Rattle.cl_labelling.specs.Regions.{Subject, Marked, Part, marked_in}
use Rattle.cl_regions.specs.Few as labels
use Rattle.cl_regions.specs.Few.{Few, few_of}
use Rattle.cl_regions.specs.Bag.{Holds}
use Rattle.cl_regions.specs.Roles.{subject_of}
use Rattle.cl_regions.specs.declared.marks.Marked as code
use Rattle.cl_regions.specs.declared.marks.Around.{Around}

pub record Kept : Type 0 where
  pub subject : Subject
  pub line : ℕ
  pub labels : Few

abbrev pub kept : Marked → Kept
kept m = record { subject = m.subject; line = m.line; labels = labels.few m.marks }

abbrev pub all_kept : List Marked → List Kept
all_kept ms = map kept ms

-- what the code keeps
abbrev pub kept_one : code.Marked → Kept
kept_one m = record { subject = subject_of m.subject; line = m.line; labels = few_of m.labels }

abbrev pub kept_all : List code.Marked → List Kept
kept_all ms = map kept_one ms

-- what is noted of the regions that are open at a place, and of the pragmas that wait there
pub record IsAround (around : Around) (begun waiting : List Word) : Type 0 where
  pub holds : Holds around.regions begun
  pub waits : few_of around.waiting ≡ labels.few waiting

-- The items behind so many of the parts are all that are to come.
pub record AreMarked (around : Around) (marks : List code.Marked) (ps : List Part) (i : ℕ) (whole : List Kept) : Type 0 where
  pub begun : List Word
  pub waiting : List Word
  pub few : length begun ≤ i
  pub here : IsAround around begun waiting
  pub rest : kept_all marks ++ all_kept (marked_in begun waiting (drop i ps)) ≡ whole
