-- The commands of a text fit their bytes.
use Rattle.std.proofs.Common.{ℕ, ◌≤◌, true, List, [], ◌∷◌, length, Some, sym, subst, inl, inr, Result, Ok, Err}
use Rattle.std.specs.Prelude.{IfOk}
use Rattle.std.specs.List.{AllByRecursion}
use Rattle.std.specs.Str.{IsUtf8}
use Rattle.grammar.specs.Rule.{Rule}
use Rattle.grammar.specs.Text.{NestsIn, Spells}
use Rattle.sql_tokens.specs.declared.kinds.TokenKind.{TokenKind}
use Rattle.sql_tokens.specs.declared.kinds.TokenKind.TheVariants as k
use Rattle.sql_tokens.specs.Lex.{Token, Placed}
use Rattle.vo_spec.specs.declared.tables.Column.{Column}
use Rattle.vo_spec.specs.declared.tables.SetPart.{SetPart}
use Rattle.vo_spec.specs.declared.tables.Command.{Command}
use Rattle.vo_spec.specs.declared.tables.Batch.{Batch}
use Rattle.vo_spec.specs.Values.{FitsValue}
use Rattle.vo_spec.specs.Batches.{FitsCommand, FitsColumn, FitsSet, FitCounted}
use Rattle.vo_spec.specs.Conditions.{Condition}
use Rattle.sql_text.specs.Tokens.{sql, IsToken, Nested}
use Rattle.sql_text.specs.Rules.{before, followed_by, list_of}
use Rattle.sql_text.specs.Queries.{name, literal, conditions_of}
use Rattle.sql_text.specs.Commands.{column, key_clause, create, drop_table, insert, set_part, update, delete, command, batch, script}
use Rattle.sql_text.specs.declared.faults.SqlFault.{SqlFault}
use Rattle.sql_text.specs.Texts.{without_places, IsTextOf, AnswersText}
use Rattle.sql_text.specs.Scripts.{IsScript, AnswersScript}
use Rattle.sql_text.specs.Fits.{FitCommands, AllFit}
use Rattle.sql_text.proofs.Made.{Made, made, of_before, of_closed, of_parens, few_listed, few_ended, all_mapped}
use Rattle.sql_text.proofs.BatchLengths.{IsSmall, text_small, script_small}
use Rattle.sql_text.proofs.NameLaws.{named_fits, literal_fits}
use Rattle.sql_text.proofs.TokenSounds.{AreUtf8, IsSound}
use Rattle.sql_tokens.proofs.Alone.{tokens_real}

abbrev MadeOf : {A : Type 0} → Rule sql A → A → Type 0
MadeOf p v = Made IsSound (λ _. Unit {0}) p v

column_fits : (c : Column) → MadeOf column c → FitsColumn c
unfolding column
column_fits c (x, (m, _), e) = subst FitsColumn (sym e) (named_fits (λ _. Unit {0}) x.0 m)

set_fits : (s : SetPart) → MadeOf set_part s → FitsSet s
unfolding set_part
set_fits s (x, (m, l), e) = subst FitsSet (sym e) (named_fits (λ _. Unit {0}) x.0 m, literal_fits (λ _. Unit {0}) x.1 (of_before IsSound (λ _. Unit {0}) k.Equal literal x.1 l))

before_of : {A : Type 0} (kind : TokenKind) (p : Rule sql A) (v : A) → MadeOf (before kind p) v → MadeOf p v
before_of kind p v m = of_before IsSound (λ _. Unit {0}) kind p v m

counted_fits : {A : Type 0} (p : Rule sql A) (Fits : A → Type 0) → ((v : A) → MadeOf p v → Fits v) → (vs : List A)
    → (1 ≤ length vs) × (length vs ≤ 32) × AllByRecursion (MadeOf p) vs → FitCounted Fits vs
counted_fits p Fits f vs (some, few, all) = (some, few, all_mapped (MadeOf p) Fits vs f all)

create_fits : (c : Command) → MadeOf create c → FitsCommand c
unfolding create key_clause FitsCommand
create_fits c (x, m, e) =
    let table = before_of k.Create _ x m in
    let rest = before_of k.Table _ x table in
    let inner = of_parens IsSound (λ _. Unit {0}) _ x.1 rest.1 in
    let key = before_of k.Primary _ x.1.1 inner.1 in
    let keyed = before_of k.Key _ x.1.1 key in
    subst FitsCommand (sym e) (
      named_fits (λ _. Unit {0}) x.0 rest.0,
      counted_fits column FitsColumn (λ v h. column_fits v h) x.1.0 (few_ended IsSound (λ _. Unit {0}) 31 column k.Comma x.1.0 inner.0),
      named_fits (λ _. Unit {0}) x.1.1 (of_parens IsSound (λ _. Unit {0}) name x.1.1 keyed),
    )

drop_fits : (c : Command) → MadeOf drop_table c → FitsCommand c
unfolding drop_table FitsCommand
drop_fits c (x, m, e) = subst FitsCommand (sym e) (named_fits (λ _. Unit {0}) x (before_of k.Table name x (before_of k.Drop _ x m)))

insert_fits : (c : Command) → MadeOf insert c → FitsCommand c
unfolding insert FitsCommand
insert_fits c (x, m, e) =
    let rest = before_of k.Into _ x (before_of k.Insert _ x m) in
    let values = of_parens IsSound (λ _. Unit {0}) (list_of (Some 31) k.Comma literal) x.1 (before_of k.Values _ x.1 rest.1) in
    subst FitsCommand (sym e) (
      named_fits (λ _. Unit {0}) x.0 rest.0,
      counted_fits literal FitsValue (λ v h. literal_fits (λ _. Unit {0}) v h) x.1 (few_listed IsSound (λ _. Unit {0}) 31 k.Comma literal x.1 values),
    )

update_fits : (c : Command) → MadeOf update c → FitsCommand c
unfolding update FitsCommand
update_fits c (x, m, e) =
    let rest = before_of k.Update _ x m in
    let sets = before_of k.Set (list_of (Some 31) k.Comma set_part) x.1.0 rest.1.0 in
    let row = set_fits x.1.1 (before_of k.Where set_part x.1.1 rest.1.1) in
    subst FitsCommand (sym e) (
      named_fits (λ _. Unit {0}) x.0 rest.0,
      counted_fits set_part FitsSet (λ v h. set_fits v h) x.1.0 (few_listed IsSound (λ _. Unit {0}) 31 k.Comma set_part x.1.0 sets),
      row.0,
      row.1,
    )

delete_fits : (c : Command) → MadeOf delete c → FitsCommand c
unfolding delete FitsCommand
delete_fits c (x, m, e) =
    let rest = before_of k.From _ x (before_of k.Delete _ x m) in
    let row = set_fits x.1 (before_of k.Where set_part x.1 rest.1) in
    subst FitsCommand (sym e) (named_fits (λ _. Unit {0}) x.0 rest.0, row.0, row.1)

pub command_fits : (c : Command) → MadeOf command c → FitsCommand c
unfolding command
command_fits c (inl m) = create_fits c m
command_fits c (inr (inl m)) = drop_fits c m
command_fits c (inr (inr (inl m))) = insert_fits c m
command_fits c (inr (inr (inr (inl m)))) = update_fits c m
command_fits c (inr (inr (inr (inr m)))) = delete_fits c m

-- one to 1,000 commands, each of which has bytes
abbrev AreCommands : Batch → Type 0
AreCommands b = (1 ≤ length b.commands) × (length b.commands ≤ 1000) × AllByRecursion FitsCommand b.commands

batch_made_fits : (b : Batch) → MadeOf batch b → AreCommands b
unfolding batch
batch_made_fits b (commands, m, e) =
    let parts = few_ended IsSound (λ _. Unit {0}) 999 command k.Semicolon commands m in
    subst AreCommands (sym e) (parts.0, parts.1, all_mapped (MadeOf command) FitsCommand commands (λ v h. command_fits v h) parts.2)

with_size : (b : Batch) → AreCommands b → IsSmall b → FitCommands b.commands
with_size b (some, few, each) small = (some, record { count = few; each = each; size = small })

with_sizes : (batches : List Batch) → AllByRecursion AreCommands batches → AllByRecursion IsSmall batches → AllFit batches
with_sizes [] h k = tt
with_sizes (b ∷ batches) h k = (with_size b h.0 k.0, with_sizes batches h.1 k.1)

pub all_sound : (ps : List Placed) → AllByRecursion IsToken (without_places ps) → AllByRecursion (λ t. IsUtf8 t.text) (without_places ps) → AllByRecursion IsSound (without_places ps)
all_sound [] h k = tt
all_sound (p ∷ ps) h k = ((h.0, k.0), all_sound ps h.1 k.1)

-- nothing stands in itself in a batch
no_nested : (levels : ℕ) (n : Nested) (ts : List Token) (c : Condition) → NestsIn conditions_of true levels n ts c → AllByRecursion IsSound ts → Unit {0}
no_nested levels n ts c s h = tt

-- the batch of a text fits
pub batch_fits : (text : List ℕ) (b : Batch) → AreUtf8 text → IsTextOf 65536 batch text b → FitCommands b.commands
batch_fits text b utf8 (few, ps, scanned, s) =
    with_size b
    (batch_made_fits b (made IsSound (λ _. Unit {0}) (NestsIn conditions_of true 32) (no_nested 32) batch (without_places ps) b s (all_sound ps (tokens_real text ps scanned) (utf8 ps scanned))))
    (text_small text b (few, ps, scanned, s))

pub answer_batch_fits : (text : List ℕ) (r : Result Batch SqlFault) → AnswersText (λ x. x) 65536 batch text r → AreUtf8 text → IfOk r (λ b. FitCommands b.commands)
answer_batch_fits text (Ok b) h utf8 = batch_fits text b utf8 h
answer_batch_fits text (Err e) h utf8 = tt

each_made : (batches : List Batch) (ts : List Token) → Spells (NestsIn conditions_of true 32) true script ts batches → AllByRecursion IsSound ts → AllByRecursion AreCommands batches
unfolding script
each_made batches ts s sound =
    let m = made IsSound (λ _. Unit {0}) (NestsIn conditions_of true 32) (no_nested 32) script ts batches s sound in
    all_mapped (MadeOf (followed_by (followed_by batch k.Commit) k.Semicolon)) AreCommands batches
    (λ b h. batch_made_fits b (of_closed IsSound (λ _. Unit {0}) batch k.Commit b (of_closed IsSound (λ _. Unit {0}) (followed_by batch k.Commit) k.Semicolon b h))) m.1

-- each batch of a script
pub script_fits : (text : List ℕ) (batches : List Batch) → AreUtf8 text → IsScript text batches → AllFit batches
script_fits text batches utf8 (few, ps, scanned, s, short) =
    with_sizes batches (each_made batches (without_places ps) s (all_sound ps (tokens_real text ps scanned) (utf8 ps scanned))) (script_small text batches (few, ps, scanned, s, short))

pub answer_script_fits : {B : Type 0} (view : B → List Batch) (text : List ℕ) (r : Result B SqlFault) → AnswersScript view text r → AreUtf8 text → IfOk r (λ b. AllFit (view b))
answer_script_fits view text (Ok b) h utf8 = script_fits text (view b) utf8 h
answer_script_fits view text (Err e) h utf8 = tt
