-- Printed commands are spelled by the rules of the grammar, and printed texts are read again.
use Rattle.std.proofs.Common.{◌≡◌, ℕ, zero, suc, ◌≤◌, Bool, true, false, List, [], ◌∷◌, ◌++◌, length, Some, refl, sym, ap, ◌∙◌, subst, inl, inr}
use Rattle.std.specs.List.{AllByRecursion}
use Rattle.grammar.specs.Rule.{Rule, nothing, token, both, either, many, means, inside}
use Rattle.grammar.specs.Text.{Nests, Repeats, Spells, NestsIn, IsText}
use Rattle.sql_tokens.specs.declared.kinds.TokenKind.TheVariants as k
use Rattle.sql_tokens.specs.Lex.{Token}
use Rattle.vo_spec.specs.declared.values.Kind.{Kind}
use Rattle.vo_spec.specs.declared.values.Kind.TheVariants as kind_of
use Rattle.vo_spec.specs.declared.values.Value.{Value}
use Rattle.vo_spec.specs.declared.tables.Column.{Column}
use Rattle.vo_spec.specs.declared.tables.SetPart.{SetPart}
use Rattle.vo_spec.specs.declared.tables.Command.{Command}
use Rattle.vo_spec.specs.declared.tables.Command.TheVariants as command_of
use Rattle.vo_spec.specs.declared.tables.Batch.{Batch}
use Rattle.vo_spec.specs.Values.{FitsValue}
use Rattle.vo_spec.specs.Batches.{FitCounted}
use Rattle.vo_spec.specs.Conditions.{Condition, Query}
use Rattle.sql_text.specs.Tokens.{sql, IsToken, Nested}
use Rattle.sql_text.specs.Rules as rule
use Rattle.sql_text.specs.Queries as query
use Rattle.sql_text.specs.Queries.{conditions_of}
use Rattle.sql_text.specs.Commands as command
use Rattle.sql_text.specs.Texts.{IsTextOf}
use Rattle.sql_text.specs.Printing.{word, name_token, literal_token, separate_by, terminate_by, parens, kind_word, mark_tokens, column_tokens, set_tokens, key_tokens, columns_tokens, command_tokens, batch_tokens, query_tokens, spaces_between, text_of, query_text, batch_text}
use Rattle.sql_text.specs.Spellable.{FreeName, SpellableColumn, SpellableSet, SpellableCommand, SpellableBatch, SpellableQuery}
use Rattle.sql_text.proofs.Made.{all_both}
use Rattle.sql_text.proofs.PrintTexts.{reads_back}
use Rattle.sql_text.proofs.PrintSpells.{Text, word_is, spell_before, spell_parens, spell_listed, spell_ended, spell_name, spell_literal, spell_query}

spell_kind : (n : ℕ) (kind : Kind) → Text n command.column_kind (word (kind_word kind) ∷ []) kind
unfolding command.column_kind
spell_kind n kind_of.Int = inl (word k.Bigint, (word_is k.Bigint refl, refl, refl), refl)
spell_kind n kind_of.Text = inr (inl (word k.Text, (word_is k.Text refl, refl, refl), refl))
spell_kind n kind_of.Bool = inr (inr (word k.Boolean, (word_is k.Boolean refl, refl, refl), refl))

spell_mark : (n : ℕ) (nullable : Bool) → Text n command.null_mark (mark_tokens nullable) nullable
unfolding command.null_mark rule.flag
spell_mark n true = inr (inl (word k.Null, (word_is k.Null refl, refl, refl), refl))
spell_mark n false = inr (inr (refl, refl))

spell_column : (n : ℕ) (c : Column) → SpellableColumn c → Text n command.column (column_tokens c) c
unfolding command.column
spell_column n c h = (
  (c.name, (c.kind, c.nullable)),
  (
    name_token c.name ∷ [],
    word (kind_word c.kind) ∷ mark_tokens c.nullable,
    refl,
    spell_name n c.name h,
    (word (kind_word c.kind) ∷ [], mark_tokens c.nullable, refl, spell_kind n c.kind, spell_mark n c.nullable),
  ),
  refl,
)

spell_set : (n : ℕ) (s : SetPart) → SpellableSet s → Text n command.set_part (set_tokens s) s
unfolding command.set_part
spell_set n s h = (
  (s.column, s.value),
  (
    name_token s.column ∷ [],
    word k.Equal ∷ literal_token s.value ∷ [],
    refl,
    spell_name n s.column h.0,
    spell_before n k.Equal query.literal (literal_token s.value ∷ []) s.value (word_is k.Equal refl) (spell_literal n s.value h.1),
  ),
  refl,
)

abbrev key_rule : Rule sql (List ℕ)
key_rule = rule.before k.Primary (rule.before k.Key (rule.in_parens query.name))

spell_key : (n : ℕ) (key : List ℕ) → FreeName key → Text n key_rule (key_tokens key) key
spell_key n key h =
    spell_before n k.Primary (rule.before k.Key (rule.in_parens query.name)) _ key (word_is k.Primary refl)
    (spell_before n k.Key (rule.in_parens query.name) _ key (word_is k.Key refl) (spell_parens n query.name (name_token key ∷ []) key (spell_name n key h)))

spell_create : (n : ℕ) (name : List ℕ) (columns : List Column) (key : List ℕ) → FreeName name → FitCounted SpellableColumn columns → FreeName key
    → Text n command.create (command_tokens (command_of.Create name columns key)) (command_of.Create name columns key)
unfolding command.create command.key_clause
spell_create n name columns key h f g = (
  (name, (columns, key)),
  spell_before n k.Create _ _ (name, (columns, key)) (word_is k.Create refl)
      (spell_before n k.Table _ _ (name, (columns, key)) (word_is k.Table refl) (
        name_token name ∷ [],
        parens (columns_tokens columns key),
        refl,
        spell_name n name h,
        spell_parens n (both (rule.list_to_end (Some 31) command.column k.Comma) key_rule) (columns_tokens columns key) (columns, key) (
          terminate_by k.Comma column_tokens columns,
          key_tokens key,
          refl,
          spell_ended n 31 command.column k.Comma column_tokens SpellableColumn (word_is k.Comma refl) (spell_column n) columns f,
          spell_key n key g,
        ),
      )),
  refl,
)

spell_drop : (n : ℕ) (name : List ℕ) → FreeName name → Text n command.drop_table (command_tokens (command_of.Drop name)) (command_of.Drop name)
unfolding command.drop_table
spell_drop n name h = (
  name,
  spell_before n k.Drop (rule.before k.Table query.name) _ name (word_is k.Drop refl) (spell_before n k.Table query.name _ name (word_is k.Table refl) (spell_name n name h)),
  refl,
)

spell_insert : (n : ℕ) (name : List ℕ) (values : List Value) → FreeName name → FitCounted FitsValue values
    → Text n command.insert (command_tokens (command_of.Insert name values)) (command_of.Insert name values)
unfolding command.insert
spell_insert n name values h f = (
  (name, values),
  spell_before n k.Insert _ _ (name, values) (word_is k.Insert refl)
      (spell_before n k.Into _ _ (name, values) (word_is k.Into refl) (
        name_token name ∷ [],
        word k.Values ∷ parens (separate_by k.Comma (λ v. literal_token v ∷ []) values),
        refl,
        spell_name n name h,
        spell_before n k.Values (rule.in_parens (rule.list_of (Some 31) k.Comma query.literal)) _ values (word_is k.Values refl)
            (spell_parens n (rule.list_of (Some 31) k.Comma query.literal) (separate_by k.Comma (λ v. literal_token v ∷ []) values) values
            (spell_listed n 31 k.Comma query.literal (λ v. literal_token v ∷ []) FitsValue (word_is k.Comma refl) (spell_literal n) values f)),
      )),
  refl,
)

spell_where : (n : ℕ) (s : SetPart) → SpellableSet s → Text n (rule.before k.Where command.set_part) (word k.Where ∷ set_tokens s) s
spell_where n s h = spell_before n k.Where command.set_part (set_tokens s) s (word_is k.Where refl) (spell_set n s h)

spell_update : (n : ℕ) (name : List ℕ) (sets : List SetPart) (s : SetPart) → FreeName name → FitCounted SpellableSet sets → SpellableSet s
    → Text n command.update (command_tokens (command_of.Update name sets s.column s.value)) (command_of.Update name sets s.column s.value)
unfolding command.update
spell_update n name sets s h f g = (
  (name, (sets, s)),
  spell_before n k.Update _ _ (name, (sets, s)) (word_is k.Update refl) (
    name_token name ∷ [],
    word k.Set ∷ separate_by k.Comma set_tokens sets ++ word k.Where ∷ set_tokens s,
    refl,
    spell_name n name h,
    (
      word k.Set ∷ separate_by k.Comma set_tokens sets,
      word k.Where ∷ set_tokens s,
      refl,
      spell_before n k.Set (rule.list_of (Some 31) k.Comma command.set_part) _ sets (word_is k.Set refl)
          (spell_listed n 31 k.Comma command.set_part set_tokens SpellableSet (word_is k.Comma refl) (spell_set n) sets f),
      spell_where n s g,
    ),
  ),
  refl,
)

spell_delete : (n : ℕ) (name : List ℕ) (s : SetPart) → FreeName name → SpellableSet s
    → Text n command.delete (command_tokens (command_of.Delete name s.column s.value)) (command_of.Delete name s.column s.value)
unfolding command.delete
spell_delete n name s h g = (
  (name, s),
  spell_before n k.Delete _ _ (name, s) (word_is k.Delete refl)
      (spell_before n k.From _ _ (name, s) (word_is k.From refl)
      (name_token name ∷ [], word k.Where ∷ set_tokens s, refl, spell_name n name h, spell_where n s g)),
  refl,
)

spell_command : (n : ℕ) (c : Command) → SpellableCommand c → Text n command.command (command_tokens c) c
unfolding command.command
spell_command n (command_of.Create name columns key) h = inl (spell_create n name columns key h.0 h.1 h.2)
spell_command n (command_of.Drop name) h = inr (inl (spell_drop n name h))
spell_command n (command_of.Insert name values) h = inr (inr (inl (spell_insert n name values h.0 h.1)))
spell_command n (command_of.Update name sets column value) h =
    inr (inr (inr (inl (spell_update n name sets (record { column = column; value = value }) h.0 h.1 (h.2, h.3)))))
spell_command n (command_of.Delete name column value) h = inr (inr (inr (inr (spell_delete n name (record { column = column; value = value }) h.0 (h.1, h.2)))))

spell_batch : (b : Batch) → SpellableBatch b.commands → IsText conditions_of true 32 command.batch (batch_tokens b.commands) b
unfolding command.batch
spell_batch b h =
    (b.commands, spell_ended 32 999 command.command k.Semicolon command_tokens SpellableCommand (word_is k.Semicolon refl) (spell_command 32) b.commands (h.filled, h.count, h.each), refl)

-- the tokens of what a rule spells are tokens of texts

each_real : {A : Type 0} (S : List Token → A → Type 0) → ((ts : List Token) (v : A) → S ts v → AllByRecursion IsToken ts)
    → (ts : List Token) (vs : List A) → Repeats S ts vs → AllByRecursion IsToken ts
each_real S f ts [] e = subst (AllByRecursion IsToken) (sym e) tt
each_real S f ts (v ∷ vs) (x, y, e, s, r) = subst (AllByRecursion IsToken) (sym e) (all_both IsToken x y (f x v s) (each_real S f y vs r))

real : {A : Type 0} (N : Nests sql) → ((n : Nested) (ts : List Token) (v : Condition) → N n ts v → AllByRecursion IsToken ts)
    → (p : Rule sql A) (ts : List Token) (v : A) → Spells N true p ts v → AllByRecursion IsToken ts
real N w (nothing a) ts v (e, f) = subst (AllByRecursion IsToken) (sym e) tt
real N w (token kind) ts v (h, e, f) = subst (AllByRecursion IsToken) (sym f) (h, tt)
real N w (both p q) ts v (x, y, e, s, t) = subst (AllByRecursion IsToken) (sym e) (all_both IsToken x y (real N w p x v.0 s) (real N w q y v.1 t))
real N w (either p q) ts v (inl s) = real N w p ts v s
real N w (either p q) ts v (inr s) = real N w q ts v s
real N w (many limit p) ts vs (fit, r) = each_real (Spells N true p) (λ us u s. real N w p us u s) ts vs r
real N w (means f p) ts v (a, s, e) = real N w p ts a s
real N w (inside kind n) ts v (t, rest, h, e, f, s) = subst (AllByRecursion IsToken) (sym f) (h, w n rest v s)

nested_real : (m : ℕ) (n : Nested) (ts : List Token) (v : Condition) → NestsIn conditions_of true m n ts v → AllByRecursion IsToken ts
nested_real zero n ts v s = absurd s
nested_real (suc m) n ts v s = real (NestsIn conditions_of true m) (nested_real m) (conditions_of.rule n) ts v s

-- printed texts

read_again : {A : Type 0} (start : Rule sql A) (ts : List Token) (v : A) → IsText conditions_of true 32 start ts v → length (spaces_between ts) ≤ 65536
    → IsTextOf 65536 start (spaces_between ts) v
read_again start ts v s size =
    let read = reads_back ts (real (NestsIn conditions_of true 32) (nested_real 32) start ts v s) in
    (size, read.0, read.1, subst (λ z. IsText conditions_of true 32 start z v) (sym read.2) s)

pub query_reads : (q : Query) → SpellableQuery q → IsTextOf 65536 query.query (query_text q) q
unfolding query_text
query_reads q h = read_again query.query (query_tokens q) q (spell_query q h) h.size

pub batch_reads : (b : Batch) → SpellableBatch b.commands → IsTextOf 65536 command.batch (batch_text b.commands) b
unfolding batch_text
batch_reads b h = read_again command.batch (batch_tokens b.commands) b (spell_batch b h) h.size

-- what was written from the start on, without its last blank

pub query_printed : (q : Query) (empty out text : List ℕ) → empty ≡ [] → out ≡ empty ++ text_of (query_tokens q) → ((ts : List Token) → out ≡ text_of ts → text ≡ spaces_between ts) → text ≡ query_text q
unfolding query_text
query_printed q empty out text e f last = last (query_tokens q) (f ∙ ap (λ z. z ++ text_of (query_tokens q)) e)

pub batch_printed : (commands given : List Command) (empty out text : List ℕ) → empty ≡ [] → given ≡ commands → out ≡ empty ++ text_of (batch_tokens given) → ((ts : List Token) → out ≡ text_of ts → text ≡ spaces_between ts)
    → text ≡ batch_text commands
unfolding batch_text
batch_printed commands given empty out text e g f last = last (batch_tokens commands) (f ∙ ap (λ z. z ++ text_of (batch_tokens given)) e ∙ ap (λ z. text_of (batch_tokens z)) g)
