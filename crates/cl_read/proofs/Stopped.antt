-- What the lexer's and the reader's answers say of the source.
use Rattle.std.proofs.Common.{◌≡◌, ◌⊎◌, inl, inr, ℕ, List, refl, ap, subst, Result, Ok, Err, IfErr, MatchResult}
use Rattle.std.specs.Prelude.{IsErrAnd}
use Rattle.cl_tree.specs.declared.token.Token.{Token}
use Rattle.cl_tree.specs.declared.tree.Program.{Program}
use Rattle.cl_tree.specs.Tokens.{AreTokens, LexFails}
use Rattle.cl_tree.specs.Reading.{WithinLimits, ReadsAs, ParseFails}
use Rattle.cl_lex.specs.Found.{IsStop}
use Rattle.cl_lex.specs.declared.lex.LexStop.{LexStop}
use Rattle.cl_lex.specs.declared.lex.LexStop.TheVariants as lexer
use Rattle.cl_lex.proofs.Cuts.{one_answer}
use Rattle.cl_parse.specs.Answer as answer
use Rattle.cl_parse.specs.declared.stop.ParseStop.{ParseStop}
use Rattle.cl_parse.specs.declared.stop.ParseStop.TheVariants as reader
use Rattle.cl_read.specs.Source.{ReadsWithin, FailsFirst}
use Rattle.cl_read.specs.Stops.{of_lexer, of_reader}
use Rattle.cl_read.specs.Answer.{IsFailure}
use Rattle.cl_read.specs.declared.stop.ReadStop.{ReadStop}
use Rattle.cl_read.specs.declared.stop.ReadStop.TheVariants.{Refused, NoMemory}

-- unless memory ran out, the refusal is this one
abbrev pub IsThis : ℕ → ℕ → ReadStop → Type 0
IsThis rule line s = (s ≡ Refused rule line) ⊎ (s ≡ NoMemory)

-- From the stop to the result that has it.
pub with_only : (r : Result Program ReadStop) (s : ReadStop) → IsErrAnd r (λ t. t ≡ s) → (p : Program) → s ≡ NoMemory → MatchResult r (λ x. x ≡ p) (λ e. e ≡ NoMemory)
with_only (Ok x) s h p m = absurd h
with_only (Err t) s h p m = cc

pub with_fails : (r : Result Program ReadStop) (s : ReadStop) → IsErrAnd r (λ t. t ≡ s) → (source : List ℕ) → IsFailure source s → IfErr r (λ e. IsFailure source e)
with_fails (Ok x) s h source f = absurd h
with_fails (Err t) s h source f = rw h f

pub with_rule : (r : Result Program ReadStop) (s : ReadStop) → IsErrAnd r (λ t. t ≡ s) → (rule line : ℕ) → IsThis rule line s → MatchResult r (λ x. ⊥) (λ e. IsThis rule line e)
with_rule (Ok x) s h rule line f = absurd h
with_rule (Err t) s h rule line f = rw h f

same_tokens : (source : List ℕ) (ts us : List Token) → AreTokens source ts → AreTokens source us → us ≡ ts
same_tokens source ts us a b = (one_answer source).0 us ts b a

-- The lexer stopped.
pub lexer_only : (source : List ℕ) (e : LexStop) → ((ts : List Token) → AreTokens source ts → e ≡ lexer.NoMemory) → (p : Program) → ReadsWithin source p → of_lexer e ≡ NoMemory
lexer_only source e none p h = ap of_lexer (none h.tokens h.cut)

stopped : (rule line : ℕ) (e : LexStop) → IsStop rule line e → IsThis rule line (of_lexer e)
stopped rule line lexer.NoMemory h = inr refl
stopped rule line (lexer.Rule r l) h = let a : r ≡ rule = h.0 in let b : l ≡ line = h.1 in inl cc

pub lexer_rule : (source : List ℕ) (e : LexStop) → ((ts : List Token) → AreTokens source ts → e ≡ lexer.NoMemory) → ((rule line : ℕ) → LexFails source rule line → IsStop rule line e) → (rule line : ℕ) → FailsFirst source rule line → IsThis rule line (of_lexer e)
lexer_rule source e none all rule line (inl f) = stopped rule line e (all rule line f)
lexer_rule source e none all rule line (inr f) = inr (ap of_lexer (none f.0 f.1))

-- The reader stopped, on the source's tokens.
pub reader_only : (source : List ℕ) (ts : List Token) (e : ParseStop) → AreTokens source ts → ((p : Program) → WithinLimits ts → ReadsAs ts p → e ≡ reader.NoMemory) → (p : Program) → ReadsWithin source p → of_reader e ≡ NoMemory
reader_only source ts e cut none p h =
    let same : h.tokens ≡ ts = same_tokens source ts h.tokens cut h.cut in
    ap of_reader (none p (subst WithinLimits same h.within) (subst (λ (us : List Token). ReadsAs us p) same h.reads))

pub reader_fails : (source : List ℕ) (ts : List Token) (e : ParseStop) → AreTokens source ts → answer.IsFailure ts e → IsFailure source (of_reader e)
reader_fails source ts (reader.Rule rule line) cut f = inr (ts, cut, f)
reader_fails source ts reader.NoMemory cut f = tt

refused : (rule line : ℕ) (e : ParseStop) → (e ≡ reader.Rule rule line) ⊎ (e ≡ reader.NoMemory) → IsThis rule line (of_reader e)
refused rule line e (inl a) = inl (ap of_reader a)
refused rule line e (inr a) = inr (ap of_reader a)

pub reader_rule : (source : List ℕ) (ts : List Token) (e : ParseStop) → AreTokens source ts → ((rule line : ℕ) → ParseFails ts rule line → (e ≡ reader.Rule rule line) ⊎ (e ≡ reader.NoMemory)) → (rule line : ℕ) → FailsFirst source rule line → IsThis rule line (of_reader e)
reader_rule source ts e cut all rule line (inl f) = absurd ((one_answer source).1 ts rule line cut f)
reader_rule source ts e cut all rule line (inr f) =
    let same : f.0 ≡ ts = same_tokens source ts f.0 cut f.1 in
    refused rule line e (all rule line (subst (λ (us : List Token). ParseFails us rule line) same f.2))

-- The source was read.
pub read_only : (source : List ℕ) (ts : List Token) (x : Program) → AreTokens source ts → ((p : Program) → WithinLimits ts → ReadsAs ts p → x ≡ p) → (p : Program) → ReadsWithin source p → x ≡ p
read_only source ts x cut one p h =
    let same : h.tokens ≡ ts = same_tokens source ts h.tokens cut h.cut in
    one p (subst WithinLimits same h.within) (subst (λ (us : List Token). ReadsAs us p) same h.reads)

pub read_rule : (source : List ℕ) (ts : List Token) → AreTokens source ts → ((rule line : ℕ) → ParseFails ts rule line → ⊥) → (rule line : ℕ) → FailsFirst source rule line → ⊥
read_rule source ts cut none rule line (inl f) = (one_answer source).1 ts rule line cut f
read_rule source ts cut none rule line (inr f) =
    let same : f.0 ≡ ts = same_tokens source ts f.0 cut f.1 in
    none rule line (subst (λ (us : List Token). ParseFails us rule line) same f.2)
