-- A batch that is read is spelled so, and what is spelled so is read.
use Rattle.std.proofs.Common.{◌≡◌, ℕ, ◌^◌, ◌<◌, ◌≤◌, false, cond, eqb, leb, ltb, List, [], ◌∷◌, ◌++◌, length, take, drop, Option, Some, None, Result, Ok, Err, refl, sym, ap, subst, ◌∙◌, append_assoc, append-nil, arith, inl, inr}
use Rattle.std.specs.Prelude.{IfOk}
use Rattle.std.specs.List.{AllByRecursion, flat_map}
use Rattle.std.proofs.lemmas.Bool.{eqb-true, ltb-false, le-ltb, leb-true, le-leb}
use Rattle.std.proofs.lemmas.List.{take_at, drop_at, take-append-drop, length-append, length-take}
use Rattle.vo_spec.specs.declared.tables.Batch.{Batch}
use Rattle.vo_spec.specs.declared.tables.SetPart.{SetPart}
use Rattle.vo_spec.specs.declared.tables.Command.{Command}
use Rattle.vo_spec.specs.declared.tables.Command.TheVariants.{Create, Drop, Insert, Update, Delete}
use Rattle.vo_spec.specs.Bytes.{IsBytes, u16_bytes, u16_of, short_string}
use Rattle.vo_spec.specs.Values.{value_bytes, FitsValue}
use Rattle.vo_spec.specs.Batches.{list_bytes, column_bytes, set_bytes, command_bytes, batch_bytes, FitCounted, FitsColumn, FitsSet, FitsCommand, FitsBatch, IsBatch, max_commands, max_batch_bytes}
use Rattle.row_bytes.specs.declared.read_fault.ReadFault.{ReadFault}
use Rattle.row_bytes.specs.Reading.{u16_at}
use Rattle.row_bytes.specs.Fields.{name_at, column_at, columns_at, times, whole}
use Rattle.row_bytes.proofs.Readers.{IsBytes-rest, IsBytes-take, IsBytes-drop, chosen}
use Rattle.row_bytes.proofs.ValueLaws.{u16_same, u16_again, u16_length}
use Rattle.batch_format.specs.BatchReading.{Reader, one, two, three, any_value_at, set_part, set_at, values_at, sets_at, create_at, drop_at as dropped_at, insert_at, update_at, delete_at, command_at, commands_at, batch_of, BatchRead}
use Rattle.batch_format.proofs.ReaderLaws.{Took, IsReader, some_is, bound, no_some, took_then, names_read, columns_are_read, values_read, many_read, next_found, next_again, times_found, times_again}

-- the last of things in turn
pub one_found : {A X : Type 0} {a : Reader A} {encode : A → List ℕ} {Fits : A → Type 0} → IsReader a encode Fits → (make : A → X) (bytes : List ℕ) (y : X × List ℕ) → IsBytes bytes → one make a bytes ≡ Some y
    → (x : A) × (rest : List ℕ) × Took bytes (encode x) rest × Fits x × ((make x, rest) ≡ y)
one_found {X = X} law make bytes y fits e =
    let n = next_found law (λ x rest. let made : Option (X × List ℕ) = Some (make x, rest) in made) bytes y fits e in
    (n.0, n.1, n.2, n.3, some_is (make n.0, n.1) y n.4)

Encodes : List ℕ → Command × List ℕ → Type 0
Encodes bytes p = Took bytes (command_bytes p.0) p.1 × FitsCommand p.0

-- parts of a SET

set_found : (bytes : List ℕ) (s : SetPart) (rest : List ℕ) → IsBytes bytes → set_at bytes ≡ Some (s, rest) → Took bytes (set_bytes s) rest × FitsSet s
unfolding set_at
set_found bytes s rest fits e =
    let a = next_found names_read (λ c. one (set_part c) any_value_at) bytes (s, rest) fits e in
    let b = one_found values_read (set_part a.0) a.1 (s, rest) a.2.behind a.4 in
    subst (λ (p : SetPart × List ℕ). Took bytes (set_bytes p.0) p.1 × FitsSet p.0) b.4 (took_then bytes (short_string a.0) a.1 (value_bytes b.0) b.1 a.2 b.2, (a.3, b.3))

set_again : (s : SetPart) (rest : List ℕ) → FitsSet s → set_at (set_bytes s ++ rest) ≡ Some (s, rest)
unfolding set_at
set_again s rest fits =
    ap set_at (append_assoc (short_string s.column) (value_bytes s.value) rest)
    ∙ next_again names_read (λ c. one (set_part c) any_value_at) s.column (value_bytes s.value ++ rest) fits.0
    ∙ next_again values_read (λ v rest. let made : Option (SetPart × List ℕ) = Some (set_part s.column v, rest) in made) s.value rest fits.1

sets_law : IsReader set_at set_bytes FitsSet
sets_law = record { found = set_found; again = set_again }

pub columns_law : IsReader columns_at (list_bytes column_bytes) (FitCounted FitsColumn)
unfolding columns_at
columns_law = many_read column_at column_bytes FitsColumn columns_are_read

values_law : IsReader values_at (list_bytes value_bytes) (FitCounted FitsValue)
unfolding values_at
values_law = many_read any_value_at value_bytes FitsValue values_read

many_sets_law : IsReader sets_at (list_bytes set_bytes) (FitCounted FitsSet)
unfolding sets_at
many_sets_law = many_read set_at set_bytes FitsSet sets_law

-- commands

-- a byte in front of what was taken
behind_byte : (byte : ℕ) (bytes text rest : List ℕ) → Took bytes text rest → Took (byte ∷ bytes) (byte ∷ text) rest
behind_byte byte bytes text rest t = record { parts = ap (λ (x : List ℕ). byte ∷ x) t.parts; behind = t.behind }

create_found : (bytes : List ℕ) (y : Command × List ℕ) → IsBytes bytes → create_at bytes ≡ Some y → Encodes (1 ∷ bytes) y
unfolding create_at Encodes command_bytes FitsCommand
create_found bytes y fits e =
    let a = next_found names_read (λ n. two (Create n) columns_at name_at) bytes y fits e in
    let b = next_found columns_law (λ cs. one (Create a.0 cs) name_at) a.1 y a.2.behind a.4 in
    let c = one_found names_read (Create a.0 b.0) b.1 y b.2.behind b.4 in
    let t = took_then bytes (short_string a.0 ++ list_bytes column_bytes b.0) b.1 (short_string c.0) c.1 (took_then bytes (short_string a.0) a.1 (list_bytes column_bytes b.0) b.1 a.2 b.2) c.2 in
    subst (Encodes (1 ∷ bytes)) c.4 (behind_byte 1 bytes (short_string a.0 ++ list_bytes column_bytes b.0 ++ short_string c.0) c.1 t, (a.3, b.3, c.3))

drop_found : (bytes : List ℕ) (y : Command × List ℕ) → IsBytes bytes → dropped_at bytes ≡ Some y → Encodes (2 ∷ bytes) y
unfolding dropped_at Encodes command_bytes FitsCommand
drop_found bytes y fits e =
    let a = one_found names_read Drop bytes y fits e in
    subst (Encodes (2 ∷ bytes)) a.4 (behind_byte 2 bytes (short_string a.0) a.1 a.2, a.3)

insert_found : (bytes : List ℕ) (y : Command × List ℕ) → IsBytes bytes → insert_at bytes ≡ Some y → Encodes (3 ∷ bytes) y
unfolding insert_at Encodes command_bytes FitsCommand
insert_found bytes y fits e =
    let a = next_found names_read (λ n. one (Insert n) values_at) bytes y fits e in
    let b = one_found values_law (Insert a.0) a.1 y a.2.behind a.4 in
    subst (Encodes (3 ∷ bytes)) b.4 (behind_byte 3 bytes (short_string a.0 ++ list_bytes value_bytes b.0) b.1 (took_then bytes (short_string a.0) a.1 (list_bytes value_bytes b.0) b.1 a.2 b.2), (a.3, b.3))

update_found : (bytes : List ℕ) (y : Command × List ℕ) → IsBytes bytes → update_at bytes ≡ Some y → Encodes (4 ∷ bytes) y
unfolding update_at Encodes command_bytes FitsCommand
update_found bytes y fits e =
    let a = next_found names_read (λ n. three (Update n) sets_at name_at any_value_at) bytes y fits e in
    let b = next_found many_sets_law (λ ss. two (Update a.0 ss) name_at any_value_at) a.1 y a.2.behind a.4 in
    let c = next_found names_read (λ k. one (Update a.0 b.0 k) any_value_at) b.1 y b.2.behind b.4 in
    let d = one_found values_read (Update a.0 b.0 c.0) c.1 y c.2.behind c.4 in
    let ab = took_then bytes (short_string a.0) a.1 (list_bytes set_bytes b.0) b.1 a.2 b.2 in
    let abc = took_then bytes (short_string a.0 ++ list_bytes set_bytes b.0) b.1 (short_string c.0) c.1 ab c.2 in
    let t = took_then bytes (short_string a.0 ++ list_bytes set_bytes b.0 ++ short_string c.0) c.1 (value_bytes d.0) d.1 abc d.2 in
    subst (Encodes (4 ∷ bytes)) d.4 (behind_byte 4 bytes (short_string a.0 ++ list_bytes set_bytes b.0 ++ short_string c.0 ++ value_bytes d.0) d.1 t, (a.3, b.3, c.3, d.3))

delete_found : (bytes : List ℕ) (y : Command × List ℕ) → IsBytes bytes → delete_at bytes ≡ Some y → Encodes (5 ∷ bytes) y
unfolding delete_at Encodes command_bytes FitsCommand
delete_found bytes y fits e =
    let a = next_found names_read (λ n. two (Delete n) name_at any_value_at) bytes y fits e in
    let b = next_found names_read (λ k. one (Delete a.0 k) any_value_at) a.1 y a.2.behind a.4 in
    let c = one_found values_read (Delete a.0 b.0) b.1 y b.2.behind b.4 in
    let t = took_then bytes (short_string a.0 ++ short_string b.0) b.1 (value_bytes c.0) c.1 (took_then bytes (short_string a.0) a.1 (short_string b.0) b.1 a.2 b.2) c.2 in
    subst (Encodes (5 ∷ bytes)) c.4 (behind_byte 5 bytes (short_string a.0 ++ short_string b.0 ++ value_bytes c.0) c.1 t, (a.3, b.3, c.3))

-- one of the five
pick : (byte n : ℕ) (bytes : List ℕ) (o : Option (Command × List ℕ)) (others : Option (Command × List ℕ)) (y : Command × List ℕ) → cond (eqb byte n) o others ≡ Some y
    → (o ≡ Some y → Encodes (n ∷ bytes) y) → (others ≡ Some y → Encodes (byte ∷ bytes) y) → Encodes (byte ∷ bytes) y
pick byte n bytes o others y e this less =
    elim (chosen (eqb byte n) o others (Some y) e) [
      | inl a ↦ subst (λ (b : ℕ). Encodes (b ∷ bytes) y) (sym (eqb-true byte n a.0)) (this a.1)
      | inr a ↦ less a.1
    ]

command_found : (bytes : List ℕ) (c : Command) (rest : List ℕ) → IsBytes bytes → command_at bytes ≡ Some (c, rest) → Took bytes (command_bytes c) rest × FitsCommand c
unfolding command_at Encodes
command_found [] c rest fits e = absurd cc
command_found (byte ∷ bytes) c rest fits e =
    let y : Command × List ℕ = (c, rest) in
    let behind = IsBytes-rest byte bytes fits in
    pick byte 1 bytes (create_at bytes) _ y e (create_found bytes y behind)
    (λ e1. pick byte 2 bytes (dropped_at bytes) _ y e1 (drop_found bytes y behind)
    (λ e2. pick byte 3 bytes (insert_at bytes) _ y e2 (insert_found bytes y behind)
    (λ e3. pick byte 4 bytes (update_at bytes) _ y e3 (update_found bytes y behind)
    (λ e4. pick byte 5 bytes (delete_at bytes) None y e4 (delete_found bytes y behind)
    (λ e5. absurd (no_some y e5))))))

command_again : (c : Command) (rest : List ℕ) → FitsCommand c → command_at (command_bytes c ++ rest) ≡ Some (c, rest)
unfolding command_at command_bytes FitsCommand create_at dropped_at insert_at update_at delete_at
command_again (Create name columns key) rest fits =
    ap create_at (append_assoc (short_string name ++ list_bytes column_bytes columns) (short_string key) rest ∙ append_assoc (short_string name) (list_bytes column_bytes columns) (short_string key ++ rest))
    ∙ next_again names_read (λ n. two (Create n) columns_at name_at) name (list_bytes column_bytes columns ++ (short_string key ++ rest)) fits.0
    ∙ next_again columns_law (λ cs. one (Create name cs) name_at) columns (short_string key ++ rest) fits.1
    ∙ next_again names_read (λ k rest. let made : Option (Command × List ℕ) = Some (Create name columns k, rest) in made) key rest fits.2
command_again (Drop name) rest fits = next_again names_read (λ n rest. let made : Option (Command × List ℕ) = Some (Drop n, rest) in made) name rest fits
command_again (Insert name values) rest fits =
    ap insert_at (append_assoc (short_string name) (list_bytes value_bytes values) rest)
    ∙ next_again names_read (λ n. one (Insert n) values_at) name (list_bytes value_bytes values ++ rest) fits.0
    ∙ next_again values_law (λ vs rest. let made : Option (Command × List ℕ) = Some (Insert name vs, rest) in made) values rest fits.1
command_again (Update name sets column value) rest fits =
    ap update_at (append_assoc (short_string name ++ list_bytes set_bytes sets ++ short_string column) (value_bytes value) rest
    ∙ append_assoc (short_string name ++ list_bytes set_bytes sets) (short_string column) (value_bytes value ++ rest)
    ∙ append_assoc (short_string name) (list_bytes set_bytes sets) (short_string column ++ (value_bytes value ++ rest)))
    ∙ next_again names_read (λ n. three (Update n) sets_at name_at any_value_at) name (list_bytes set_bytes sets ++ (short_string column ++ (value_bytes value ++ rest))) fits.0
    ∙ next_again many_sets_law (λ ss. two (Update name ss) name_at any_value_at) sets (short_string column ++ (value_bytes value ++ rest)) fits.1
    ∙ next_again names_read (λ k. one (Update name sets k) any_value_at) column (value_bytes value ++ rest) fits.2
    ∙ next_again values_read (λ v rest. let made : Option (Command × List ℕ) = Some (Update name sets column v, rest) in made) value rest fits.3
command_again (Delete name column value) rest fits =
    ap delete_at (append_assoc (short_string name ++ short_string column) (value_bytes value) rest ∙ append_assoc (short_string name) (short_string column) (value_bytes value ++ rest))
    ∙ next_again names_read (λ n. two (Delete n) name_at any_value_at) name (short_string column ++ (value_bytes value ++ rest)) fits.0
    ∙ next_again names_read (λ k. one (Delete name k) any_value_at) column (value_bytes value ++ rest) fits.1
    ∙ next_again values_read (λ v rest. let made : Option (Command × List ℕ) = Some (Delete name column v, rest) in made) value rest fits.2

commands_law : IsReader command_at command_bytes FitsCommand
commands_law = record { found = command_found; again = command_again }

-- batches

pub u16_found : (bytes : List ℕ) (n : ℕ) (rest : List ℕ) → IsBytes bytes → u16_at bytes ≡ Some (n, rest) → Took bytes (u16_bytes n) rest
unfolding u16_at
u16_found bytes n rest fits e =
    elim (chosen (ltb (length bytes) 2) None (Some (u16_of (take 2 bytes), drop 2 bytes)) (Some (n, rest)) e) [
      | inl a ↦ absurd (no_some (n, rest) a.1)
      | inr a ↦
          let long : 2 ≤ length bytes = ltb-false _ _ a.0 in
          let len : length (take 2 bytes) ≡ 2 = omega (arith, length-take 2 bytes) in
          let is : (u16_of (take 2 bytes), drop 2 bytes) ≡ (n, rest) = some_is (u16_of (take 2 bytes), drop 2 bytes) (n, rest) a.1 in
          subst (λ (p : ℕ × List ℕ). Took bytes (u16_bytes p.0) p.1) is
          (record { parts = sym (take-append-drop 2 bytes) ∙ ap (λ (t : List ℕ). t ++ drop 2 bytes) (sym (u16_same (take 2 bytes) len (IsBytes-take 2 bytes fits))); behind = IsBytes-drop 2 bytes fits })
    ]

pub u16_read : (n : ℕ) (rest : List ℕ) → n < 2 ^ 16 → u16_at (u16_bytes n ++ rest) ≡ Some (n, rest)
unfolding u16_at
u16_read n rest lt =
    let len = u16_length n in
    let long : ltb (length (u16_bytes n ++ rest)) 2 ≡ false = le-ltb _ _ (omega (arith, length-append (u16_bytes n) rest)) in
    rw (long, take_at (u16_bytes n) rest 2 len, drop_at (u16_bytes n) rest 2 len, u16_again n lt) refl

commands_found : (bytes : List ℕ) (cs : List Command) (rest : List ℕ) → IsBytes bytes → commands_at bytes ≡ Some (cs, rest) → (bytes ≡ batch_bytes cs ++ rest) × (length cs ≤ max_commands) × AllByRecursion FitsCommand cs
unfolding commands_at batch_bytes
commands_found bytes cs rest fits e =
    let a = bound (u16_at bytes) (λ count. cond (leb count.0 max_commands) (times command_at count.0 count.1) None) (cs, rest) e in
    let n = u16_found bytes a.0.0 a.0.1 fits a.1 in
    elim (chosen (leb a.0.0 max_commands) (times command_at a.0.0 a.0.1) None (Some (cs, rest)) a.2) [
      | inl b ↦
          let f = times_found command_at command_bytes FitsCommand commands_law a.0.0 a.0.1 cs rest n.behind b.1 in
          let few : length cs ≤ max_commands = omega (arith, leb-true a.0.0 max_commands b.0, f.1) in
          ((took_then bytes (u16_bytes a.0.0) a.0.1 (flat_map command_bytes cs) rest n f.0).parts ∙ ap (λ (k : ℕ). u16_bytes k ++ flat_map command_bytes cs ++ rest) (sym f.1), few, f.2)
      | inr b ↦ absurd (no_some (cs, rest) b.1)
    ]

whole_is : (r : Option (List Command × List ℕ)) (cs : List Command) → whole r ≡ Some cs → r ≡ Some (cs, [])
whole_is None cs e = absurd cc
whole_is (Some (xs, [])) cs e = ap (λ (t : List Command). Some (t, [])) (some_is xs cs e)
whole_is (Some (xs, byte ∷ bytes)) cs e = absurd cc

pub batch_found : (bytes : List ℕ) (cs : List Command) → IsBytes bytes → batch_of bytes ≡ Some cs → IsBatch bytes cs
unfolding batch_of
batch_found bytes cs fits e =
    elim (chosen (leb (length bytes) max_batch_bytes) (whole (commands_at bytes)) None (Some cs) e) [
      | inl a ↦
          let f = commands_found bytes cs [] fits (whole_is (commands_at bytes) cs a.1) in
          let encoded : bytes ≡ batch_bytes cs = f.0 ∙ append-nil (batch_bytes cs) in
          record { fits = record { count = f.1; each = f.2; size = subst (λ (t : List ℕ). length t ≤ max_batch_bytes) encoded (leb-true (length bytes) max_batch_bytes a.0) }; encoded = encoded }
      | inr a ↦ absurd (no_some cs a.1)
    ]

pub batch_again : (cs : List Command) → FitsBatch cs → batch_of (batch_bytes cs) ≡ Some cs
unfolding batch_of commands_at batch_bytes
batch_again cs fits =
    let rest : times command_at (length cs) (flat_map command_bytes cs) ≡ Some (cs, []) = ap (times command_at (length cs)) (sym (append-nil (flat_map command_bytes cs))) ∙ times_again command_at command_bytes FitsCommand commands_law cs [] fits.each in
    rw (le-leb (length (u16_bytes (length cs) ++ flat_map command_bytes cs)) max_batch_bytes fits.size, u16_read (length cs) (flat_map command_bytes cs) (omega (arith, fits.count)), le-leb (length cs) max_commands fits.count, rest) refl

-- what the call ensures

pub is_batch : (bytes : List ℕ) (r : Result Batch ReadFault) → IsBytes bytes → BatchRead r (batch_of bytes) → IfOk r (λ batch. IsBatch bytes batch.commands)
is_batch bytes (Ok batch) fits read = batch_found bytes batch.commands fits read
is_batch bytes (Err fault) fits read = tt

pub is_read : (bytes : List ℕ) (r : Result Batch ReadFault) (cs : List Command) → BatchRead r (batch_of bytes) → IsBatch bytes cs → BatchRead r (Some cs)
is_read bytes r cs read is = subst (BatchRead r) (ap batch_of is.encoded ∙ batch_again cs is.fits) read
