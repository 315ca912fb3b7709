-- E17: the taints of a label don't fit the function that has it.
use Rattle.std.specs.Prelude.{ℕ, Bool, true, false, ◌&&◌, ◌==◌, List, [], ◌∷◌, ◌++◌, length, Option, Some, None, bytes_eq, codes, if◌then◌else◌, slice_index_or}
use Rattle.std.specs.List.{flat_map, list_all}
use Rattle.cl_tree.specs.declared.kinds.IntKind.{IntKind}
use Rattle.cl_tree.specs.declared.kinds.IntKind.TheVariants.{I32}
use Rattle.cl_tree.specs.declared.tree.CType.{CType, CType-F, out-CType}
use Rattle.cl_tree.specs.declared.tree.CType.TheOpen as ctype
use Rattle.cl_tree.specs.declared.tree.Declarator.{Declarator}
use Rattle.cl_tree.specs.declared.tree.Item.{Item}
use Rattle.cl_tree.specs.declared.tree.Item.TheVariants as item
use Rattle.cl_tree.specs.declared.tree.Program.{Program}
use Rattle.cl_tree.specs.Arithmetic.{fits}
use Rattle.cl_tree.specs.Words.{Word}
use Rattle.cl_mean.specs.declared.labels.Operation.{Operation}
use Rattle.cl_mean.specs.declared.labels.Operation.TheVariants.{Redact}
use Rattle.cl_mean.specs.declared.labels.RedactField.{RedactField}
use Rattle.cl_mean.specs.declared.labels.Taints.{Taints}
use Rattle.cl_mean.specs.declared.labels.Entry.{Entry}
use Rattle.cl_mean.specs.declared.labels.LabelFact.{LabelFact}
use Rattle.cl_mean.specs.Shape.{Shape, struct, member, Structs, structs_of, shape_of, kinds_of, under}
use Rattle.cl_mean.specs.Source.{parameters_of, request_members, array_members, label_at}
use Rattle.cl_typing.specs.Rules.{Lines, unless}
use Rattle.cl_labelling.specs.Names.{labels_of}
use Rattle.cl_labelling.specs.Regions.{Subject, objects, function, marked_of}
use Rattle.cl_labelling.specs.Items.{label_on, label_names}

-- ---- how a function is declared

pub record Signature : Type 0 where
  pub name : Word
  pub result : CType
  pub params : List Declarator

abbrev pub signature : Word → CType → List Declarator → Signature
signature name result params = record { name = name; result = result; params = params }

abbrev pub defined_by : Item → List Signature
defined_by (item.Function is_static result name void_word params (Some body) line second) = signature name result params ∷ []
defined_by _ = []

abbrev pub declared_by : Item → List Signature
declared_by (item.Function is_static result name void_word params body line second) = signature name result params ∷ []
declared_by _ = []

unfoldable pub signature_among : List Signature → Word → Option Signature
signature_among [] name = None
signature_among (s ∷ ss) name = if bytes_eq s.name name then Some s else signature_among ss name

-- A function's parameters have the names of its definition, and where there is none of its first declaration.
unfoldable pub signature_of : Program → Word → Option Signature
signature_of program name = signature_among (flat_map defined_by program.items ++ flat_map declared_by program.items) name

-- ---- payloads of a function

abbrev pub payload : Structs → Signature → Bool → Shape
payload structs s false = struct (request_members (parameters_of structs None 0 s.params))
payload structs s true = struct (member (codes "return") (shape_of structs s.result) (array_members (parameters_of structs None 0 s.params)))

-- ---- redacted fields

abbrev pub any_there : List ℕ → Bool
any_there [] = false
any_there (p ∷ ps) = true

-- The path names integers of the payload, and the number is in the type of each.
unfoldable pub field_fits : Structs → Signature → RedactField → Bool
field_fits structs s f = any_there places && list_all (λ at. fits (slice_index_or kinds at I32) f.with) places
  where
    places : List ℕ
    places = under (payload structs s f.reply) f.path 0

    kinds : List IntKind
    kinds = kinds_of (payload structs s f.reply)

-- the fields that an entry has replaced
abbrev pub redacted_by : Entry → List RedactField
redacted_by e = by e.operation
  where
    by : Operation → List RedactField
    by Redact = e.redact
    by _ = []

-- ---- taints

-- how many names `rettaints` has: one for a result, none for `void`
abbrev pub results : CType-F CType → ℕ
results ctype.Void = 0
results _ = 1

unfoldable pub label_fits : Structs → Signature → LabelFact → Bool
label_fits structs s label = by label.taints
  where
    by : Option Taints → Bool
    by None = true
    by (Some t) =
        (length t.args == length s.params) && (length t.result == results (out-CType s.result))
        && list_all (λ e. list_all (field_fits structs s) (redacted_by e)) label.entries

abbrev pub subject_fits : Program → List LabelFact → Subject → Option ℕ → Bool
subject_fits program labels (objects count) label = true
subject_fits program labels (function name) label = both (signature_of program name) (label_at labels label)
  where
    both : Option Signature → Option LabelFact → Bool
    both (Some s) (Some l) = label_fits (structs_of program.items) s l
    both _ _ = true

-- each declaration that has the label, so first the first one
unfoldable pub taints_misfit : Program → Lines
taints_misfit program =
    flat_map (λ m. unless (subject_fits program (labels_of program) m.subject (label_on (label_names program) m)) m.line) (marked_of program)
