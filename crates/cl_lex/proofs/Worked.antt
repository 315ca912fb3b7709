-- The worked examples, computed from the definitions.
use Rattle.std.proofs.Common.{[], ◌∷◌}
use Rattle.std.specs.Prelude.{codes}
use Rattle.cl_tree.specs.Letters.{is_blank, is_printable, is_on_line, is_newline, is_bad, is_letter, is_digit, is_word, is_name}
use Rattle.cl_tree.specs.Words.{keyword, is_type_keyword, is_keyword, is_cle_word}
use Rattle.cl_tree.specs.Joins.{bytes_of, places_of, join_len, line_after}
use Rattle.cl_tree.specs.Pieces.{first_opening, opening_of, opening_in, is_exponent_letter, go, step, mark, shape, is_piece}
use Rattle.cl_tree.specs.Literals.{digit_of, is_digit_in, are_digits, is_u, is_body, has_u, without_u, width_of, is_hex, base_of, digits_of, kind_of, numeral, integer_split, integer, behind_digits, is_float_suffix, ends_float, behind_sign, ends_exponent, is_exponent, ends_fraction, is_floating_from, is_floating, by_digits, simple_escape, escape_at, letter_inside, inside, letter, literal}
use Rattle.cl_tree.specs.Directives.{part_after, shown, behind_blanks, trimmed, word_len, word, behind_word, has_word, allowed, header, can_be_defined, name_and_literal, cle_if, other_pragma, cle, form, behind_hash, is_def, def_line, directive}
use Rattle.cl_tree.specs.Tokens.{AreTokens, LexFails, number_meaning, string_meaning, piece_meaning, at_start, fresh_after, behind, flaw, to_line_end, strange}
use Rattle.cl_lex.specs.Scans.{longest_mark}
use Rattle.cl_lex.specs.Worked.{sum, literals, over_lines, apart, three, one_string, label}
use Rattle.cl_lex.proofs.Total.{answered}

-- all of them, since each opens the same definitions
all_are :
    (AreTokens (codes "a+++b") sum)
    × (AreTokens (codes "0x1f 1.5e+3 '\\377'") literals)
    × (AreTokens (codes "a\\\nb") over_lines)
    × (AreTokens (codes "a/* x */b") apart)
    × (AreTokens (codes "#define N 3\nN") three)
    × (AreTokens (codes "\"a\" \"b\"") one_string)
    × (AreTokens (codes "#pragma cle def P\t{ }\t") label)
    × (LexFails (7 ∷ []) 2 1)
    × (LexFails (codes "a\n@") 3 2)
    × (LexFails (codes "\"x") 4 1)
    × (LexFails (codes "#if 1") 5 1)
    × (LexFails (codes "'\\777'") 7 1)
unfolding bytes_of places_of join_len line_after is_blank is_printable is_on_line is_newline is_bad is_letter is_digit is_word is_name first_opening opening_of opening_in is_exponent_letter go step mark shape is_piece digit_of is_digit_in are_digits is_u is_body has_u without_u width_of is_hex base_of digits_of kind_of numeral integer_split integer behind_digits is_float_suffix ends_float behind_sign ends_exponent is_exponent ends_fraction is_floating_from is_floating by_digits simple_escape escape_at letter_inside inside letter literal part_after shown behind_blanks trimmed word_len word behind_word has_word allowed header can_be_defined name_and_literal cle_if other_pragma cle form behind_hash is_def def_line directive number_meaning string_meaning piece_meaning at_start fresh_after behind flaw to_line_end strange longest_mark keyword is_type_keyword is_keyword is_cle_word
all_are = (
  answered (codes "a+++b"),
  answered (codes "0x1f 1.5e+3 '\\377'"),
  answered (codes "a\\\nb"),
  answered (codes "a/* x */b"),
  answered (codes "#define N 3\nN"),
  answered (codes "\"a\" \"b\""),
  answered (codes "#pragma cle def P\t{ }\t"),
  answered (7 ∷ []),
  answered (codes "a\n@"),
  answered (codes "\"x"),
  answered (codes "#if 1"),
  answered (codes "'\\777'"),
)

pub sum_is : AreTokens (codes "a+++b") sum
sum_is = all_are.0

pub literals_are : AreTokens (codes "0x1f 1.5e+3 '\\377'") literals
literals_are = all_are.1

pub join_is : AreTokens (codes "a\\\nb") over_lines
join_is = all_are.2

pub comment_is : AreTokens (codes "a/* x */b") apart
comment_is = all_are.3

pub defined_is : AreTokens (codes "#define N 3\nN") three
defined_is = all_are.4

pub strings_are : AreTokens (codes "\"a\" \"b\"") one_string
strings_are = all_are.5

pub label_is : AreTokens (codes "#pragma cle def P\t{ }\t") label
label_is = all_are.6

pub byte_fails : LexFails (7 ∷ []) 2 1
byte_fails = all_are.7

pub sign_fails : LexFails (codes "a\n@") 3 2
sign_fails = all_are.8

pub string_fails : LexFails (codes "\"x") 4 1
string_fails = all_are.9

pub directive_fails : LexFails (codes "#if 1") 5 1
directive_fails = all_are.10

pub escape_fails : LexFails (codes "'\\777'") 7 1
escape_fails = all_are.11

pub ruleset failures = (byte_fails, sign_fails, string_fails, directive_fails, escape_fails)
