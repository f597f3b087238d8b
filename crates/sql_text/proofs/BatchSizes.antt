-- A batch of a text has room in a journal: each byte of its text stands for at most nine of its
-- bytes.
use Rattle.std.proofs.Common.{◌≡◌, ℕ, suc, ◌+◌, ◌-◌, ◌*◌, ◌≤◌, arith, Bool, true, false, cond, List, [], ◌∷◌, ◌++◌, length, take, drop, Some, w64, refl, ap, ◌∙◌}
use Rattle.std.specs.Prelude.{◌==◌, ◌&&◌}
use Rattle.std.specs.List.{flat_map}
use Rattle.std.specs.Int.{cast_unsigned}
use Rattle.std.specs.Char.{to_ascii_lowercase}
use Rattle.std.proofs.lemmas.List.{length-append, length-map, length-take, length-drop}
use Rattle.grammar.specs.Rule.{token}
use Rattle.grammar.specs.Text.{Nests, Spells}
use Rattle.sql_tokens.specs.declared.kinds.TokenKind.{TokenKind}
use Rattle.sql_tokens.specs.declared.kinds.TokenKind.TheVariants as k
use Rattle.sql_tokens.specs.Lex.{Token, single_quotes, quoted_value}
use Rattle.vo_spec.specs.declared.values.Value.TheVariants as value
use Rattle.vo_spec.specs.declared.tables.Batch.{Batch}
use Rattle.vo_spec.specs.Bytes.{u16_bytes, u64_bytes, short_string}
use Rattle.vo_spec.specs.Values.{value_bytes}
use Rattle.vo_spec.specs.Batches.{list_bytes, column_type, column_bytes, set_bytes, command_bytes, batch_bytes}
use Rattle.sql_text.specs.Tokens.{sql, IsToken}
use Rattle.sql_text.specs.Rules.{before, followed_by, in_parens, flag, list_of, list_to_end}
use Rattle.sql_text.specs.Queries.{name, literal}
use Rattle.sql_text.specs.Commands.{column_kind, null_mark, column, key_clause, create, drop_table, insert, set_part, update, delete, command, batch}
use Rattle.sql_text.proofs.Weights.{weigh, some_byte, total, avoids, Light, light_less, light_zero, light_token, light_both, light_either, light_means, light_before, light_parens, light_listed, light_ended}

sizes : {A : Type 0} (bytes : A → List ℕ) (xs : List A) → length (flat_map bytes xs) ≡ total (λ x. length (bytes x)) xs
sizes bytes [] = refl
sizes bytes (x ∷ xs) = length-append (bytes x) (flat_map bytes xs) ∙ ap (λ n. length (bytes x) + n) (sizes bytes xs)

u64_size : (n : ℕ) → length (u64_bytes n) ≡ 8
unfolding u64_bytes
u64_size n = refl

u16_size : (n : ℕ) → length (u16_bytes n) ≡ 2
unfolding u16_bytes
u16_size n = refl

fewer : (s : Bool) (bytes : List ℕ) → length (single_quotes s bytes) ≤ length bytes
fewer s [] = omega arith
fewer s (b ∷ bytes) = by_quote (λ s2. fewer s2 bytes) (s && b == 39)
  where
    by_quote : ((s2 : Bool) → length (single_quotes s2 bytes) ≤ length bytes) → (q : Bool)
        → length (cond q (single_quotes false bytes) (b ∷ single_quotes (b == 39) bytes)) ≤ suc (length bytes)
    by_quote again true = omega (arith, again false)
    by_quote again false = omega (arith, again (b == 39))

unquoted_size : (text : List ℕ) → length (quoted_value text) ≤ length text
unquoted_size text =
    omega (arith, fewer false (take (length text - 2) (drop 1 text)), length-take (length text - 2) (drop 1 text), length-drop 1 text)

module _ (N : Nests sql) where
  named : Light N name (λ v. 1 + length v)
  unfolding name
  named = light_means N (light_token N (λ t real e. omega (arith, some_byte t.text t real, length-map t.text to_ascii_lowercase)))

  number_size : (t : Token) → IsToken t → length (value_bytes (value.Int t.number)) ≤ 9 * length t.text
  number_size t real = omega (arith, some_byte t.text t real, u64_size (cast_unsigned w64 t.number))

  quoted_size : (t : Token) → IsToken t → length (value_bytes (value.Text (quoted_value t.text))) ≤ 9 * length t.text
  quoted_size t real =
      omega (arith, some_byte t.text t real, unquoted_size t.text, length-append (u16_bytes (length (quoted_value t.text))) (quoted_value t.text), u16_size (length (quoted_value t.text)))

  worth : Light N literal (λ v. length (value_bytes v))
  unfolding literal
  worth =
      light_either N (light_means N (light_token N (λ t real e. number_size t real)))
      (light_either N (light_means N (light_token N (λ t real e. number_size t real)))
      (light_either N (light_means N (light_token N (λ t real e. quoted_size t real)))
      (light_either N (light_means N (light_token N (λ t real e. omega (arith, some_byte t.text t real))))
      (light_either N (light_means N (light_token N (λ t real e. omega (arith, some_byte t.text t real))))
      (light_means N (light_token N (λ t real e. omega (arith, some_byte t.text t real))))))))

  kind_light : Light N column_kind (λ _. 1)
  unfolding column_kind
  kind_light = light_either N (light_means N byte) (light_either N (light_means N byte) (light_means N byte))
    where
      byte : {kind : TokenKind} → Light N (token kind) (λ _. 1)
      byte = light_token N (λ t real e. omega (arith, some_byte t.text t real))

  column_light : Light N column (λ c. length (column_bytes c))
  unfolding column
  column_light =
      light_means N (light_less N (light_both N named (light_both N kind_light (light_zero N)))
      (λ x. omega (arith, length-append (short_string x.0) (column_type (record { name = x.0; kind = x.1.0; nullable = x.1.1 }) ∷ []))))

  set_light : Light N set_part (λ s. length (set_bytes s))
  unfolding set_part
  set_light =
      light_means N (light_less N (light_both N named (light_before N k.Equal worth))
      (λ x. omega (arith, length-append (short_string x.0) (value_bytes x.1))))

  create_light : Light N create (λ c. length (command_bytes c))
  unfolding create key_clause command_bytes
  create_light =
      light_means N (light_less N
      (light_before N k.Create (light_before N k.Table (light_both N named (light_parens N
      (light_both N (light_ended N (Some 31) k.Comma column_light) (light_before N k.Primary (light_before N k.Key (light_parens N named))))))))
      (λ x. omega (
        arith,
        length-append (short_string x.0 ++ list_bytes column_bytes x.1.0) (short_string x.1.1),
        length-append (short_string x.0) (list_bytes column_bytes x.1.0),
        sizes column_bytes x.1.0,
      )))

  drop_light : Light N drop_table (λ c. length (command_bytes c))
  unfolding drop_table command_bytes
  drop_light = light_means N (light_less N (light_before N k.Drop (light_before N k.Table named)) (λ x. omega arith))

  insert_light : Light N insert (λ c. length (command_bytes c))
  unfolding insert command_bytes
  insert_light =
      light_means N (light_less N
      (light_before N k.Insert (light_before N k.Into (light_both N named (light_before N k.Values (light_parens N (light_listed N (Some 31) k.Comma worth))))))
      (λ x. omega (arith, length-append (short_string x.0) (list_bytes value_bytes x.1), sizes value_bytes x.1)))

  update_light : Light N update (λ c. length (command_bytes c))
  unfolding update command_bytes
  update_light =
      light_means N (light_less N
      (light_before N k.Update (light_both N named (light_both N (light_before N k.Set (light_listed N (Some 31) k.Comma set_light)) (light_before N k.Where set_light))))
      (λ x. omega (
        arith,
        length-append (short_string x.0 ++ list_bytes set_bytes x.1.0 ++ short_string x.1.1.column) (value_bytes x.1.1.value),
        length-append (short_string x.0 ++ list_bytes set_bytes x.1.0) (short_string x.1.1.column),
        length-append (short_string x.0) (list_bytes set_bytes x.1.0),
        length-append (short_string x.1.1.column) (value_bytes x.1.1.value),
        sizes set_bytes x.1.0,
      )))

  delete_light : Light N delete (λ c. length (command_bytes c))
  unfolding delete command_bytes
  delete_light =
      light_means N (light_less N
      (light_before N k.Delete (light_before N k.From (light_both N named (light_before N k.Where set_light))))
      (λ x. omega (
        arith,
        length-append (short_string x.0 ++ short_string x.1.column) (value_bytes x.1.value),
        length-append (short_string x.0) (short_string x.1.column),
        length-append (short_string x.1.column) (value_bytes x.1.value),
      )))

  command_light : Light N command (λ c. length (command_bytes c))
  unfolding command
  command_light = light_either N create_light (light_either N drop_light (light_either N insert_light (light_either N update_light delete_light)))

  -- the commands of a batch, without the two bytes that say how many
  batch_light : Light N batch (λ (b : Batch). total (λ c. length (command_bytes c)) b.commands)
  unfolding batch
  batch_light = light_means N (light_ended N (Some 999) k.Semicolon command_light)

  -- a batch of tokens that have at most 65,536 bytes
  pub batch_small : (ts : List Token) (b : Batch) → Spells N true batch ts b → weigh ts ≤ 65536 → length (batch_bytes b.commands) ≤ 1048576
  unfolding batch_bytes
  batch_small ts b s few =
      let commands = batch_light.bound ts b s in
      omega (arith, commands, few, length-append (u16_bytes (length b.commands)) (flat_map command_bytes b.commands), u16_size (length b.commands), sizes command_bytes b.commands)

pub batch_avoids : avoids batch ≡ true
unfolding batch command create key_clause drop_table insert update delete set_part column column_kind null_mark name literal list_to_end list_of in_parens followed_by before flag
batch_avoids = refl
