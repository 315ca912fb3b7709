-- What is a piece of a text without joins: a blank, a name, a literal or a punctuator (C11 6.4). Each class of pieces has one shape, and the first two bytes choose the class.
use Rattle.std.specs.Prelude.{ℕ, Bool, true, false, ◌&&◌, ◌||◌, ◌==◌, List, [], ◌∷◌, map, Option, Some, None, length, drop, slice_index, if◌then◌else◌}
use Prim.Native.Char.{code}
use Rattle.cl_tree.specs.Letters.{is_blank, is_newline, is_bad, is_letter, is_digit, is_word}
use Rattle.cl_tree.specs.Words.{entry}
use Rattle.cl_tree.specs.declared.pieces.Run.{Run}
use Rattle.cl_tree.specs.declared.pieces.Run.TheVariants.{Letters, Digits, Line, Directive}
use Rattle.cl_tree.specs.declared.pieces.Closed.{Closed}
use Rattle.cl_tree.specs.declared.pieces.Closed.TheVariants.{Comment, Quoted, Letter}
use Rattle.cl_tree.specs.declared.pieces.Opening.{Opening}
use Rattle.cl_tree.specs.declared.pieces.Opening.TheVariants.{Runs, Closes, Space, Punct, Other}
use Rattle.cl_tree.specs.declared.pieces.Next.{Next}
use Rattle.cl_tree.specs.declared.pieces.Next.TheVariants.{More, Shut, Broken}
use Rattle.cl_tree.specs.declared.token.Mark.{Mark}
use Rattle.cl_tree.specs.declared.token.TheConstants.{MARKS}

-- the class of a piece that begins with byte b
unfoldable pub first_opening : ℕ → Opening
first_opening b =
    if is_bad b then Other
    else (if is_letter b then Runs Letters
    else (if is_digit b then Runs Digits
    else (if b == code "\"" then Closes Quoted
    else (if b == code "'" then Closes Letter
    else (if is_blank b || is_newline b then Space
    else Punct)))))

-- the same where c stands behind it, 0 if nothing does: `/*`, `//`, and a point before a digit
unfoldable pub opening_of : ℕ → ℕ → Opening
opening_of b c =
    if (b == code "/") && (c == code "*") then Closes Comment
    else (if (b == code "/") && (c == code "/") then Runs Line
    else (if (b == code ".") && is_digit c then Runs Digits
    else first_opening b))

-- fresh: only spaces, tabs and CR stand before it in its line. Then `#` begins a directive
unfoldable pub opening_in : Bool → ℕ → ℕ → Opening
opening_in fresh b c = if fresh && (b == code "#") then Runs Directive else opening_of b c

abbrev pub opening : Bool → List ℕ → Opening
opening fresh xs = opening_in fresh (slice_index xs 0) (slice_index xs 1)

-- a letter behind which a sign goes on a number
unfoldable pub is_exponent_letter : ℕ → Bool
is_exponent_letter a = (a == code "e") || (a == code "E") || (a == code "p") || (a == code "P")

-- A run goes on with byte b behind byte a, and then b is the byte before; or it ends before b.
unfoldable pub go : Run → ℕ → ℕ → Option ℕ
go Letters a b = if is_word b then Some b else None
go Digits a b =
    if is_word b || (b == code ".") || (((b == code "+") || (b == code "-")) && is_exponent_letter a) then Some b
    else None
go Line a b = if is_newline b then None else Some b
go Directive a b = if is_newline b then None else Some b

abbrev pub by_state : {A : Type 0} → (ℕ → A) → A → Option ℕ → A
by_state more stop None = stop
by_state more stop (Some s) = more s

-- all these bytes go on a run behind byte a
abbrev pub runs : Run → ℕ → List ℕ → Bool
runs r a [] = true
runs r a (b ∷ bs) = by_state (λ t. runs r t bs) false (go r a b)

-- What a byte does in a piece that closes. The flag says whether a star, or a backslash, stands before it. Strings and character constants end on their line.
unfoldable pub step : Closed → Bool → ℕ → Next
step Comment star b = if star && (b == code "/") then Shut else More (b == code "*")
step Quoted escaped b = if is_newline b then Broken else (if escaped then More false else (if b == code "\"" then Shut else More (b == code "\\")))
step Letter escaped b = if is_newline b then Broken else (if escaped then More false else (if b == code "'" then Shut else More (b == code "\\")))

abbrev pub by_next : {A : Type 0} → (Bool → A) → A → A → Next → A
by_next more shut broken (More t) = more t
by_next more shut broken Shut = shut
by_next more shut broken Broken = broken

-- these bytes, behind the opening, end with the first close
abbrev pub closes : Closed → Bool → List ℕ → Bool
closes k s [] = false
closes k s (b ∷ bs) = by_next (λ t. closes k t bs) (length bs == 0) false (step k s b)

-- how many bytes open it
abbrev pub opening_len : Closed → ℕ
opening_len Comment = 2
opening_len Quoted = 1
opening_len Letter = 1

-- the punctuator that these bytes are
unfoldable pub mark : List ℕ → Option Mark
mark = entry (map (λ row. (row.0.now, row.1)) MARKS)

abbrev pub has : {A : Type 0} → Option A → Bool
has None = false
has (Some x) = true

-- the bytes have the shape of their class
unfoldable pub shape : Opening → List ℕ → Bool
shape (Runs r) xs = runs r (slice_index xs 0) (drop 1 xs)
shape (Closes k) xs = closes k false (drop (opening_len k) xs)
shape Space xs = length xs == 1
shape Punct xs = has (mark xs)
shape Other xs = false

-- the bytes are one whole piece
unfoldable pub is_piece : Bool → List ℕ → Bool
is_piece fresh xs = if length xs == 0 then false else shape (opening fresh xs) xs
