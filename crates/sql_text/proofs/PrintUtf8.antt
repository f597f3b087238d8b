-- Printed texts are UTF-8 where the names and texts in them are.
use Rattle.std.proofs.Common.{◌≡◌, ℕ, ◌≤◌, ◌<◌, ◌^◌, Bool, true, false, cond, List, [], ◌∷◌, ◌++◌, drop, Option, Some, None, ℤ, pos, negsuc, refl, sym, ap, ◌∙◌, subst, arith, w64}
use Rattle.std.specs.Prelude.{◌==◌, nat_lt, flat_map, FitsSigned, IfSome}
use Rattle.std.specs.Option.{option_map_or}
use Rattle.std.specs.List.{AllByRecursion, list_all}
use Rattle.std.specs.Str.{IsUtf8, IsAscii}
use Rattle.std.specs.Fmt.{signed_decimal}
use Rattle.std.proofs.Math.Utf8.{encode, encodes, scalars}
use Rattle.std.proofs.lemmas.Bool.Decides.{nat_tests}
use Rattle.std.proofs.lemmas.Fmt.{IsAscii-signed}
use Rattle.std.proofs.lemmas.Grind.{flat_map-append}
use Rattle.std.proofs.lemmas.Str.{IsUtf8-nil, IsUtf8-append, IsUtf8-from_ascii, IsUtf8-from_is_utf8, IsUtf8-encode, encode_ascii}
use Rattle.std.proofs.lemmas.Str.Ascii.{IsAscii-nil, IsAscii-cons}
use Rattle.sql_tokens.specs.declared.kinds.TokenKind.{TokenKind}
use Rattle.sql_tokens.specs.declared.kinds.TokenKind.TheVariants as k
use Rattle.sql_tokens.specs.Kinds.{spelling}
use Rattle.sql_tokens.specs.Lex.{Token}
use Rattle.vo_spec.specs.declared.values.Kind.{Kind}
use Rattle.vo_spec.specs.declared.values.Kind.TheVariants as kind_of
use Rattle.vo_spec.specs.declared.values.Value.{Value}
use Rattle.vo_spec.specs.declared.values.Value.TheVariants as value
use Rattle.vo_spec.specs.declared.queries.Ref.{Ref}
use Rattle.vo_spec.specs.declared.queries.Source.{Source}
use Rattle.vo_spec.specs.declared.queries.Join.{Join}
use Rattle.vo_spec.specs.declared.queries.Items.{Items}
use Rattle.vo_spec.specs.declared.queries.Items.TheVariants as items_of
use Rattle.vo_spec.specs.declared.queries.Cmp.{Cmp}
use Rattle.vo_spec.specs.declared.queries.Cmp.TheVariants as cmp
use Rattle.vo_spec.specs.declared.queries.Operand.{Operand}
use Rattle.vo_spec.specs.declared.queries.Operand.TheVariants as operand_of
use Rattle.vo_spec.specs.declared.tables.Column.{Column}
use Rattle.vo_spec.specs.declared.tables.SetPart.{SetPart}
use Rattle.vo_spec.specs.declared.tables.Command.{Command}
use Rattle.vo_spec.specs.declared.tables.Command.TheVariants as command_of
use Rattle.vo_spec.specs.Names.{is_name_byte, FitsName}
use Rattle.vo_spec.specs.Values.{FitsValue}
use Rattle.vo_spec.specs.Batches.{FitsColumn, FitsSet, FitsCommand, FitsBatch}
use Rattle.vo_spec.specs.Conditions.{every, some, negated, test, none, more, of_tests_in, comparison, null_test, NameTest, Condition, Conditions, Query}
use Rattle.sql_text.specs.Printing.{word, name_token, literal_token, quoted_byte, separate_by, terminate_by, parens, reference_tokens, source_tokens, operator, operand_tokens, null_tokens, test_tokens, is_enclosed, parenthesize, condition_tokens, parts_tokens, items_tokens, join_tokens, where_tokens, limit_tokens, query_tokens, kind_word, mark_tokens, column_tokens, set_tokens, key_tokens, columns_tokens, command_tokens, batch_tokens, spaces_between, query_text, batch_text}
use Rattle.sql_text.specs.Printable.{PrintableRef, PrintableSource, PrintableItems, PrintableJoin, PrintableOperand, PrintableTest, tests_of, PrintableQuery}
use Rattle.sql_text.proofs.Made.{all_both, all_parts}
use Rattle.sql_text.proofs.PrintTokens.{name_small}
use Rattle.sql_text.proofs.TokenSounds.{both, high_char, utf8_cons}

-- Tokens.

ascii_of : (p : ℕ → Bool) → ((b : ℕ) → p b ≡ true → b < 128) → (bs : List ℕ) → list_all p bs ≡ true → IsAscii bs
ascii_of p small [] e = IsAscii-nil
ascii_of p small (b ∷ bs) e = let parts = both (p b) (list_all p bs) e in IsAscii-cons b bs (small b parts.0) (ascii_of p small bs parts.1)

abbrev is_ascii : List ℕ → Bool
is_ascii bs = list_all (λ b. nat_lt b 128) bs

word_utf8 : (kind : TokenKind) → is_ascii (spelling kind) ≡ true → IsUtf8 (spelling kind)
word_utf8 kind e = IsUtf8-from_ascii (spelling kind) (ascii_of (λ b. nat_lt b 128) below (spelling kind) e)
  where
    below : (b : ℕ) → nat_lt b 128 ≡ true → b < 128
    below b f = grind (arith, nat_tests)

name_utf8 : (name : List ℕ) → FitsName name → IsUtf8 name
name_utf8 [] h = IsUtf8-nil
name_utf8 (b ∷ name) h = IsUtf8-from_ascii (b ∷ name) (ascii_of is_name_byte name_small (b ∷ name) (both _ _ h).1)

integer_utf8 : (z : ℤ) → FitsSigned w64 z → IsUtf8 (signed_decimal z)
integer_utf8 (pos n) h = IsUtf8-from_ascii (signed_decimal (pos n)) (IsAscii-signed (pos n) (omega arith))
integer_utf8 (negsuc n) h = IsUtf8-from_ascii (signed_decimal (negsuc n)) (IsAscii-signed (negsuc n) (omega arith))

high_same : (bs : List ℕ) → AllByRecursion (λ b. 128 ≤ b) bs → flat_map quoted_byte bs ≡ bs
high_same [] h = refl
high_same (b ∷ bs) h = by_quote (b == 39) refl (high_same bs h.1)
  where
    by_quote : (q : Bool) → (b == 39) ≡ q → flat_map quoted_byte bs ≡ bs → cond q (39 ∷ 39 ∷ []) (b ∷ []) ++ flat_map quoted_byte bs ≡ b ∷ bs
    by_quote true e again = absurd (let same : b ≡ 39 = grind (arith, nat_tests) in let large : 128 ≤ b = h.0 in omega (arith, same, large))
    by_quote false e again = ap (λ z. b ∷ z) again

doubled_char : (c : ℕ) (rest : List ℕ) → c < 128 → IsUtf8 rest → IsUtf8 (quoted_byte c ++ rest)
doubled_char c rest small u = by_quote (c == 39)
  where
    by_quote : (q : Bool) → IsUtf8 (cond q (39 ∷ 39 ∷ []) (c ∷ []) ++ rest)
    by_quote true = utf8_cons 39 (39 ∷ rest) (omega arith) (utf8_cons 39 rest (omega arith) u)
    by_quote false = utf8_cons c rest small u

doubled_utf8 : (cs : List ℕ) → scalars cs ≡ true → IsUtf8 (flat_map quoted_byte (encodes cs))
doubled_utf8 [] e = IsUtf8-nil
doubled_utf8 (c ∷ cs) e = by_size (nat_lt c 128) refl (doubled_utf8 cs (both _ _ e).1)
  where
    by_size : (b : Bool) → nat_lt c 128 ≡ b → IsUtf8 (flat_map quoted_byte (encodes cs)) → IsUtf8 (flat_map quoted_byte (encode c ++ encodes cs))
    by_size true f again =
        let small : c < 128 = grind (arith, nat_tests) in
        subst (λ z. IsUtf8 (flat_map quoted_byte (z ++ encodes cs))) (sym (encode_ascii c small)) (doubled_char c (flat_map quoted_byte (encodes cs)) small again)
    by_size false f again =
        let high : 128 ≤ c = grind (arith, nat_tests) in
        subst IsUtf8 (sym (flat_map-append quoted_byte (encode c) (encodes cs) ∙ ap (λ z. z ++ flat_map quoted_byte (encodes cs)) (high_same (encode c) (high_char c high))))
        (IsUtf8-append (encode c) (flat_map quoted_byte (encodes cs)) (IsUtf8-encode c (both _ _ e).0) again)

quoted_utf8 : (s : List ℕ) → IsUtf8 s → IsUtf8 (39 ∷ flat_map quoted_byte s ++ 39 ∷ [])
quoted_utf8 s (cs, (e, f)) =
    let all : IsUtf8 (flat_map quoted_byte s) = subst (λ z. IsUtf8 (flat_map quoted_byte z)) f (doubled_utf8 cs e) in
    IsUtf8-append (39 ∷ flat_map quoted_byte s) (39 ∷ []) (utf8_cons 39 (flat_map quoted_byte s) (omega arith) all) (utf8_cons 39 [] (omega arith) IsUtf8-nil)

literal_utf8 : (v : Value) → FitsValue v → IsUtf8 (literal_token v).text
literal_utf8 (value.Int z) h = integer_utf8 z h
literal_utf8 (value.Text s) h = quoted_utf8 s (IsUtf8-from_is_utf8 s (both _ _ (both _ _ h).0).1)
literal_utf8 (value.Bool true) h = word_utf8 k.True refl
literal_utf8 (value.Bool false) h = word_utf8 k.False refl
literal_utf8 value.Null h = word_utf8 k.Null refl

-- Lists of tokens.

abbrev AreUtf8 : List Token → Type 0
AreUtf8 ts = AllByRecursion (λ (t : Token). IsUtf8 t.text) ts

joined : (x y : List Token) → AreUtf8 x → AreUtf8 y → AreUtf8 (x ++ y)
joined x y h f = all_both (λ (t : Token). IsUtf8 t.text) x y h f

flat : {A : Type 0} (tokens : A → List Token) (Fits : A → Type 0) → ((v : A) → Fits v → AreUtf8 (tokens v)) → (vs : List A) → AllByRecursion Fits vs → AreUtf8 (flat_map tokens vs)
flat tokens Fits f [] h = tt
flat tokens Fits f (v ∷ vs) h = joined (tokens v) (flat_map tokens vs) (f v h.0) (flat tokens Fits f vs h.1)

parens_utf8 : (ts : List Token) → AreUtf8 ts → AreUtf8 (parens ts)
parens_utf8 ts h = joined (word k.LeftParen ∷ ts) (word k.RightParen ∷ []) (word_utf8 k.LeftParen refl, h) (word_utf8 k.RightParen refl, tt)

enclosed_utf8 : (b : Bool) (ts : List Token) → AreUtf8 ts → AreUtf8 (parenthesize b ts)
enclosed_utf8 true ts h = parens_utf8 ts h
enclosed_utf8 false ts h = h

rest_utf8 : (ts : List Token) → AreUtf8 ts → AreUtf8 (drop 1 ts)
rest_utf8 [] h = tt
rest_utf8 (t ∷ ts) h = h.1

separated_utf8 : {A : Type 0} (kind : TokenKind) (tokens : A → List Token) (Fits : A → Type 0) → IsUtf8 (spelling kind) → ((v : A) → Fits v → AreUtf8 (tokens v))
    → (vs : List A) → AllByRecursion Fits vs → AreUtf8 (separate_by kind tokens vs)
separated_utf8 kind tokens Fits u f [] h = tt
separated_utf8 kind tokens Fits u f (v ∷ vs) h =
    joined (tokens v) (flat_map (λ y. word kind ∷ tokens y) vs) (f v h.0) (flat (λ y. word kind ∷ tokens y) Fits (λ y g. (u, f y g)) vs h.1)

terminated_utf8 : {A : Type 0} (kind : TokenKind) (tokens : A → List Token) (Fits : A → Type 0) → IsUtf8 (spelling kind) → ((v : A) → Fits v → AreUtf8 (tokens v))
    → (vs : List A) → AllByRecursion Fits vs → AreUtf8 (terminate_by kind tokens vs)
terminated_utf8 kind tokens Fits u f vs h = flat (λ y. tokens y ++ word kind ∷ []) Fits (λ y g. joined (tokens y) (word kind ∷ []) (f y g) (u, tt)) vs h

spaced_utf8 : (ts : List Token) → AreUtf8 ts → IsUtf8 (spaces_between ts)
spaced_utf8 [] h = IsUtf8-nil
spaced_utf8 (t ∷ []) h = h.0
spaced_utf8 (t ∷ u ∷ ts) h = IsUtf8-append t.text (32 ∷ spaces_between (u ∷ ts)) h.0 (utf8_cons 32 (spaces_between (u ∷ ts)) (omega arith) (spaced_utf8 (u ∷ ts) h.1))

-- Queries.

abbrev AreTests : List NameTest → Type 0
AreTests tests = AllByRecursion PrintableTest tests

qualifier_utf8 : (q : Option (List ℕ)) (c : List ℕ) → IfSome q FitsName → FitsName c → AreUtf8 (reference_tokens (record { qualifier = q; column = c }))
qualifier_utf8 None c h f = (name_utf8 c f, tt)
qualifier_utf8 (Some q) c h f = (name_utf8 q h, (word_utf8 k.Dot refl, (name_utf8 c f, tt)))

reference_utf8 : (r : Ref) → PrintableRef r → AreUtf8 (reference_tokens r)
reference_utf8 r h = qualifier_utf8 r.qualifier r.column h.0 h.1

source_utf8 : (s : Source) → PrintableSource s → AreUtf8 (source_tokens s)
source_utf8 s h = (name_utf8 s.table h.0, (word_utf8 k.As refl, (name_utf8 s.alias h.1, tt)))

operator_utf8 : (op : Cmp) → IsUtf8 (spelling (operator op))
operator_utf8 cmp.Eq = word_utf8 k.Equal refl
operator_utf8 cmp.Ne = word_utf8 k.NotEqual refl
operator_utf8 cmp.Lt = word_utf8 k.Less refl
operator_utf8 cmp.Le = word_utf8 k.LessEqual refl
operator_utf8 cmp.Gt = word_utf8 k.Greater refl
operator_utf8 cmp.Ge = word_utf8 k.GreaterEqual refl

operand_utf8 : (v : Operand) → PrintableOperand v → AreUtf8 (operand_tokens v)
operand_utf8 (operand_of.Ref r) h = reference_utf8 r h
operand_utf8 (operand_of.Literal v) h = (literal_utf8 v h, tt)

null_utf8 : (is_not : Bool) → AreUtf8 (null_tokens is_not)
null_utf8 true = (word_utf8 k.Is refl, (word_utf8 k.Not refl, (word_utf8 k.Null refl, tt)))
null_utf8 false = (word_utf8 k.Is refl, (word_utf8 k.Null refl, tt))

test_utf8 : (t : NameTest) → PrintableTest t → AreUtf8 (test_tokens t)
test_utf8 (comparison left op right) h = joined (reference_tokens left) _ (reference_utf8 left h.0) (operator_utf8 op, operand_utf8 right h.1)
test_utf8 (null_test left is_not) h = joined (reference_tokens left) (null_tokens is_not) (reference_utf8 left h) (null_utf8 is_not)

mutual
  condition_utf8 : (c : Condition) → AreTests (tests_of c) → AreUtf8 (condition_tokens c)
  condition_utf8 (every cs) h = rest_utf8 (parts_tokens k.And cs) (parts_utf8 k.And (word_utf8 k.And refl) cs h)
  condition_utf8 (some cs) h = rest_utf8 (parts_tokens k.Or cs) (parts_utf8 k.Or (word_utf8 k.Or refl) cs h)
  condition_utf8 (negated c) h = (word_utf8 k.Not refl, enclosed_utf8 (is_enclosed k.Not c) (condition_tokens c) (condition_utf8 c h))
  condition_utf8 (test t) h = test_utf8 t h.0

  parts_utf8 : (in_word : TokenKind) → IsUtf8 (spelling in_word) → (cs : Conditions) → AreTests (of_tests_in (λ t. t ∷ []) cs) → AreUtf8 (parts_tokens in_word cs)
  parts_utf8 in_word u none h = tt
  parts_utf8 in_word u (more c cs) h =
      let parts = all_parts PrintableTest (tests_of c) (of_tests_in (λ t. t ∷ []) cs) h in
      joined (word in_word ∷ parenthesize (is_enclosed in_word c) (condition_tokens c)) (parts_tokens in_word cs)
      (u, enclosed_utf8 (is_enclosed in_word c) (condition_tokens c) (condition_utf8 c parts.0)) (parts_utf8 in_word u cs parts.1)

items_utf8 : (v : Items) → PrintableItems v → AreUtf8 (items_tokens v)
items_utf8 items_of.All h = (word_utf8 k.Star refl, tt)
items_utf8 (items_of.Refs refs) h = separated_utf8 k.Comma reference_tokens PrintableRef (word_utf8 k.Comma refl) reference_utf8 refs h

join_utf8 : (j : Join) → PrintableJoin j → AreUtf8 (join_tokens j)
join_utf8 j h =
    joined ((word k.Join ∷ source_tokens j.right) ++ (word k.On ∷ reference_tokens j.left_ref)) (word k.Equal ∷ reference_tokens j.right_ref)
    (joined (word k.Join ∷ source_tokens j.right) (word k.On ∷ reference_tokens j.left_ref) (word_utf8 k.Join refl, source_utf8 j.right h.0) (word_utf8 k.On refl, reference_utf8 j.left_ref h.1))
    (word_utf8 k.Equal refl, reference_utf8 j.right_ref h.2)

joins_utf8 : (o : Option Join) → IfSome o PrintableJoin → AreUtf8 (option_map_or join_tokens o [])
joins_utf8 None h = tt
joins_utf8 (Some j) h = join_utf8 j h

where_utf8 : (o : Option Condition) → AreTests (option_map_or tests_of o []) → AreUtf8 (option_map_or where_tokens o [])
where_utf8 None h = tt
where_utf8 (Some c) h = (word_utf8 k.Where refl, condition_utf8 c h)

limit_utf8 : (o : Option ℕ) → IfSome o (λ rows. rows < 2 ^ 32) → AreUtf8 (option_map_or limit_tokens o [])
limit_utf8 None h = tt
limit_utf8 (Some rows) h = (word_utf8 k.Limit refl, (IsUtf8-from_ascii (signed_decimal (pos rows)) (IsAscii-signed (pos rows) (omega (arith, h))), tt))

pub query_utf8 : (q : Query) → PrintableQuery q → IfSome q.limit (λ rows. rows < 2 ^ 32) → IsUtf8 (query_text q)
unfolding query_text
query_utf8 q h few =
    spaced_utf8 (query_tokens q)
    (joined ((word k.Select ∷ items_tokens q.items) ++ (word k.From ∷ source_tokens q.left) ++ option_map_or join_tokens q.join [] ++ option_map_or where_tokens q.condition [])
    (option_map_or limit_tokens q.limit [])
    (joined ((word k.Select ∷ items_tokens q.items) ++ (word k.From ∷ source_tokens q.left) ++ option_map_or join_tokens q.join []) (option_map_or where_tokens q.condition [])
    (joined ((word k.Select ∷ items_tokens q.items) ++ (word k.From ∷ source_tokens q.left)) (option_map_or join_tokens q.join [])
    (joined (word k.Select ∷ items_tokens q.items) (word k.From ∷ source_tokens q.left) (word_utf8 k.Select refl, items_utf8 q.items h.items) (word_utf8 k.From refl, source_utf8 q.left h.left))
    (joins_utf8 q.join h.join))
    (where_utf8 q.condition h.tests))
    (limit_utf8 q.limit few))

-- Commands.

kind_utf8 : (kind : Kind) → IsUtf8 (spelling (kind_word kind))
kind_utf8 kind_of.Int = word_utf8 k.Bigint refl
kind_utf8 kind_of.Text = word_utf8 k.Text refl
kind_utf8 kind_of.Bool = word_utf8 k.Boolean refl

mark_utf8 : (nullable : Bool) → AreUtf8 (mark_tokens nullable)
mark_utf8 true = (word_utf8 k.Null refl, tt)
mark_utf8 false = tt

column_utf8 : (c : Column) → FitsColumn c → AreUtf8 (column_tokens c)
column_utf8 c h = (name_utf8 c.name h, (kind_utf8 c.kind, mark_utf8 c.nullable))

set_utf8 : (s : SetPart) → FitsSet s → AreUtf8 (set_tokens s)
set_utf8 s h = (name_utf8 s.column h.0, (word_utf8 k.Equal refl, (literal_utf8 s.value h.1, tt)))

key_utf8 : (key : List ℕ) → FitsName key → AreUtf8 (key_tokens key)
key_utf8 key h = (word_utf8 k.Primary refl, (word_utf8 k.Key refl, parens_utf8 (name_token key ∷ []) (name_utf8 key h, tt)))

command_utf8 : (c : Command) → FitsCommand c → AreUtf8 (command_tokens c)
unfolding FitsCommand
command_utf8 (command_of.Create name columns key) h = (
  word_utf8 k.Create refl,
  (
    word_utf8 k.Table refl,
    (
      name_utf8 name h.0,
      parens_utf8 (columns_tokens columns key)
          (joined (terminate_by k.Comma column_tokens columns) (key_tokens key)
          (terminated_utf8 k.Comma column_tokens FitsColumn (word_utf8 k.Comma refl) column_utf8 columns h.1.2) (key_utf8 key h.2)),
    ),
  ),
)
command_utf8 (command_of.Drop name) h = (word_utf8 k.Drop refl, (word_utf8 k.Table refl, (name_utf8 name h, tt)))
command_utf8 (command_of.Insert name values) h = (
  word_utf8 k.Insert refl,
  (
    word_utf8 k.Into refl,
    (
      name_utf8 name h.0,
      (
        word_utf8 k.Values refl,
        parens_utf8 (separate_by k.Comma (λ v. literal_token v ∷ []) values)
            (separated_utf8 k.Comma (λ v. literal_token v ∷ []) FitsValue (word_utf8 k.Comma refl) (λ v g. (literal_utf8 v g, tt)) values h.1.2),
      ),
    ),
  ),
)
command_utf8 (command_of.Update name sets column value) h =
    joined (word k.Update ∷ name_token name ∷ word k.Set ∷ separate_by k.Comma set_tokens sets) (word k.Where ∷ set_tokens (record { column = column; value = value }))
    (word_utf8 k.Update refl, (name_utf8 name h.0, (word_utf8 k.Set refl, separated_utf8 k.Comma set_tokens FitsSet (word_utf8 k.Comma refl) set_utf8 sets h.1.2)))
    (word_utf8 k.Where refl, set_utf8 (record { column = column; value = value }) (h.2, h.3))
command_utf8 (command_of.Delete name column value) h =
    (word_utf8 k.Delete refl, (word_utf8 k.From refl, (name_utf8 name h.0, (word_utf8 k.Where refl, set_utf8 (record { column = column; value = value }) (h.1, h.2)))))

pub batch_utf8 : (commands : List Command) → FitsBatch commands → IsUtf8 (batch_text commands)
unfolding batch_text
batch_utf8 commands h =
    spaced_utf8 (batch_tokens commands) (terminated_utf8 k.Semicolon command_tokens FitsCommand (word_utf8 k.Semicolon refl) command_utf8 commands h.each)
