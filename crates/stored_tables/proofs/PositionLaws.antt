-- What stands at a table's place.
use Rattle.std.proofs.Common.{◌≡◌, ℕ, ◌+◌, Bool, true, false, cond, List, [], ◌∷◌, ◌++◌, map, take, drop, Some, None, Result, Ok, Err, refl, sym, ap, ◌∙◌, subst, append_assoc}
use Rattle.std.specs.Prelude.{find}
use Rattle.std.specs.Option.{option_map_or}
use Rattle.std.specs.Result.{result_map_both}
use Rattle.std.specs.List.{AllByRecursion}
use Rattle.vo_spec.specs.declared.tables.Command.{Command}
use Rattle.vo_spec.specs.declared.tables.Command.TheVariants.{Create, Drop, Insert, Update, Delete}
use Rattle.vo_spec.specs.declared.tables.CommandFault.{CommandFault}
use Rattle.vo_spec.specs.declared.trees.UpdateFault.{UpdateFault}
use Rattle.vo_spec.specs.Values.{key_lt}
use Rattle.vo_spec.specs.Trees.{RowTree}
use Rattle.vo_spec.specs.Tables.{table_header_named}
use Rattle.vo_spec.specs.Honest.{Stored, stored_table_header, put_stored, row_refusal, tree_after, with_tree, behind_stored, change_tree, changed_trees, table_of, proof_on, command_proof}
use Rattle.table_list.specs.TableHeaders.{command_name}
use Rattle.table_list.specs.Changes.{Returns}
use Rattle.table_list.specs.declared.fault.ApplyFault.{ApplyFault}
use Rattle.table_list.specs.declared.fault.ApplyFault.TheVariants.{Refused, Memory}
use Rattle.stored_tables.specs.View.{stored_of}
use Rattle.stored_tables.specs.Positions.{is_named, IsUnlike, IsThere, IsAt}
use Rattle.stored_tables.specs.Working.{with_new_tree, table_after}
use Rattle.row_works.specs.Operations.{changes_rows}
use Rattle.stored_tables.proofs.ListLaws.{parted_at, one_more}

-- Among tables of other names.

find_among : (name : List ℕ) (before : List Stored) (s : Stored) (after : List Stored) → AllByRecursion (IsUnlike name) before → is_named name s ≡ true
    → find (is_named name) (before ++ s ∷ after) ≡ Some s
find_among name [] s after unlike named = ap (λ b. cond b (Some s) (find (is_named name) after)) named
find_among name (b ∷ before) s after unlike named =
    ap (λ t. cond t (Some b) (find (is_named name) (before ++ s ∷ after))) unlike.0 ∙ find_among name before s after unlike.1 named

table_header_among : (name : List ℕ) (before : List Stored) (s : Stored) (after : List Stored) → AllByRecursion (IsUnlike name) before → is_named name s ≡ true
    → table_header_named name (map stored_table_header (before ++ s ∷ after)) ≡ Some (stored_table_header s)
table_header_among name [] s after unlike named = ap (λ b. cond b (Some (stored_table_header s)) (table_header_named name (map stored_table_header after))) named
table_header_among name (b ∷ before) s after unlike named =
    ap (λ t. cond t (Some (stored_table_header b)) (table_header_named name (map stored_table_header (before ++ s ∷ after)))) unlike.0
    ∙ table_header_among name before s after unlike.1 named

with_tree_is : (s : Stored) (after : List Stored) (r : Result RowTree UpdateFault)
    → with_tree s after r ≡ result_map_both (λ t. t ∷ after) (λ fault. fault) (result_map_both (with_new_tree s) row_refusal r)
with_tree_is s after (Ok tree) = refl
with_tree_is s after (Err fault) = refl

behind_is : (b : Stored) (before after : List Stored) (r : Result Stored CommandFault)
    → behind_stored b (result_map_both (λ t. before ++ t ∷ after) (λ fault. fault) r) ≡ result_map_both (λ t. b ∷ before ++ t ∷ after) (λ fault. fault) r
behind_is b before after (Ok t) = refl
behind_is b before after (Err fault) = refl

change_among : (name : List ℕ) (c : Command) (before : List Stored) (s : Stored) (after : List Stored) → AllByRecursion (IsUnlike name) before → is_named name s ≡ true
    → change_tree name c (before ++ s ∷ after) ≡ result_map_both (λ t. before ++ t ∷ after) (λ fault. fault) (table_after c s)
change_among name c [] s after unlike named =
    ap (λ b. cond b (with_tree s after (tree_after c s)) (behind_stored s (change_tree name c after))) named ∙ with_tree_is s after (tree_after c s)
change_among name c (b ∷ before) s after unlike named =
    ap (λ t. cond t (with_tree b (before ++ s ∷ after) (tree_after c b)) (behind_stored b (change_tree name c (before ++ s ∷ after)))) unlike.0
    ∙ ap (behind_stored b) (change_among name c before s after unlike.1 named)
    ∙ behind_is b before after (table_after c s)

-- At a place.

pub find_at : (name : List ℕ) (stored : List Stored) (at : ℕ) (s : Stored) → IsAt name stored at s → find (is_named name) stored ≡ Some s
find_at name stored at s is = ap (find (is_named name)) (parted_at stored at s is.there) ∙ find_among name (take at stored) s (drop (at + 1) stored) is.before is.named

pub table_header_at : (name : List ℕ) (stored : List Stored) (at : ℕ) (s : Stored) → IsAt name stored at s → table_header_named name (map stored_table_header stored) ≡ Some (stored_table_header s)
table_header_at name stored at s is =
    ap (λ ss. table_header_named name (map stored_table_header ss)) (parted_at stored at s is.there) ∙ table_header_among name (take at stored) s (drop (at + 1) stored) is.before is.named

pub change_at : (name : List ℕ) (c : Command) (stored : List Stored) (at : ℕ) (s : Stored) → IsAt name stored at s
    → change_tree name c stored ≡ result_map_both (λ t. take at stored ++ t ∷ drop (at + 1) stored) (λ fault. fault) (table_after c s)
change_at name c stored at s is =
    ap (change_tree name c) (parted_at stored at s is.there) ∙ change_among name c (take at stored) s (drop (at + 1) stored) is.before is.named

-- Where no table has the name.

pub find_nowhere : (name : List ℕ) (stored : List Stored) → AllByRecursion (IsUnlike name) stored → find (is_named name) stored ≡ None
find_nowhere name [] unlike = refl
find_nowhere name (s ∷ stored) unlike = ap (λ b. cond b (Some s) (find (is_named name) stored)) unlike.0 ∙ find_nowhere name stored unlike.1

pub table_header_nowhere : (name : List ℕ) (stored : List Stored) → AllByRecursion (IsUnlike name) stored → table_header_named name (map stored_table_header stored) ≡ None
table_header_nowhere name [] unlike = refl
table_header_nowhere name (s ∷ stored) unlike =
    ap (λ b. cond b (Some (stored_table_header s)) (table_header_named name (map stored_table_header stored))) unlike.0 ∙ table_header_nowhere name stored unlike.1

-- One table further in a search.

pub found_here : (name : List ℕ) (stored : List Stored) (at : ℕ) (s : Stored) (b : Bool) → IsThere stored at s → AllByRecursion (IsUnlike name) (take at stored)
    → b ≡ is_named name s → b ≡ true → IsAt name stored at s
found_here name stored at s b there before told so = record { there = there; before = before; named = sym told ∙ so }

pub unlike_more : (name : List ℕ) (stored : List Stored) (at : ℕ) (s : Stored) (b : Bool) → IsThere stored at s → AllByRecursion (IsUnlike name) (take at stored)
    → b ≡ is_named name s → b ≡ false → AllByRecursion (IsUnlike name) (take (at + 1) stored)
unlike_more name stored at s b there before told not_so = one_more (IsUnlike name) stored at s there (sym told ∙ not_so) before

pub put_here : (t : Stored) (stored all : List Stored) (at : ℕ) (s : Stored) (b : Bool) → IsThere stored at s → all ≡ take at stored ++ put_stored t (drop at stored)
    → b ≡ key_lt t.name s.name → b ≡ true → all ≡ take at stored ++ t ∷ drop at stored
put_here t stored all at s b there is told so =
    is ∙ ap (λ rest. take at stored ++ put_stored t rest) there.onward
    ∙ ap (λ c. take at stored ++ cond c (t ∷ s ∷ drop (at + 1) stored) (s ∷ put_stored t (drop (at + 1) stored))) (sym told ∙ so)
    ∙ ap (λ rest. take at stored ++ t ∷ rest) (sym there.onward)

pub put_further : (t : Stored) (stored all : List Stored) (at : ℕ) (s : Stored) (b : Bool) → IsThere stored at s → all ≡ take at stored ++ put_stored t (drop at stored)
    → b ≡ key_lt t.name s.name → b ≡ false → all ≡ take (at + 1) stored ++ put_stored t (drop (at + 1) stored)
put_further t stored all at s b there is told not_so =
    is ∙ ap (λ rest. take at stored ++ put_stored t rest) there.onward
    ∙ ap (λ c. take at stored ++ cond c (t ∷ s ∷ drop (at + 1) stored) (s ∷ put_stored t (drop (at + 1) stored))) (sym told ∙ not_so)
    ∙ sym (append_assoc (take at stored) (s ∷ []) (put_stored t (drop (at + 1) stored)))
    ∙ ap (λ front. front ++ put_stored t (drop (at + 1) stored)) (sym there.so_far)

-- What a command gives of its table, and looks at.

pub table_changed : (name : List ℕ) (c : Command) (stored new : List Stored) (at : ℕ) (s t : Stored) → IsAt name stored at s → table_after c s ≡ Ok t
    → new ≡ take at stored ++ t ∷ drop (at + 1) stored → change_tree name c stored ≡ Ok new
table_changed name c stored new at s t is made all =
    change_at name c stored at s is ∙ ap (result_map_both (λ u. take at stored ++ u ∷ drop (at + 1) stored) (λ fault. fault)) made ∙ ap Ok (sym all)

pub table_refused : {X : Type 0} (view : X → List Stored) (name : List ℕ) (c : Command) (stored : List Stored) (at : ℕ) (s : Stored) (fault : ApplyFault) → IsAt name stored at s
    → Returns stored_of (Err fault) (table_after c s) → Returns view (Err fault) (change_tree name c stored)
table_refused view name c stored at s (Refused why) is told =
    change_at name c stored at s is ∙ ap (result_map_both (λ u. take at stored ++ u ∷ drop (at + 1) stored) (λ fault. fault)) told
table_refused view name c stored at s Memory is told = tt

name_is : (c : Command) → command_name c ≡ table_of c
name_is (Create name columns key) = refl
name_is (Drop name) = refl
name_is (Insert name values) = refl
name_is (Update name sets column value) = refl
name_is (Delete name column value) = refl

pub proof_nowhere : (c : Command) (stored : List Stored) → AllByRecursion (IsUnlike (command_name c)) stored → command_proof c stored ≡ []
proof_nowhere c stored unlike =
    ap (λ found. option_map_or (proof_on c) found []) (find_nowhere (table_of c) stored (subst (λ name. AllByRecursion (IsUnlike name) stored) (name_is c) unlike))

pub proof_at : (c : Command) (stored : List Stored) (at : ℕ) (s : Stored) → IsAt (command_name c) stored at s → command_proof c stored ≡ proof_on c s
proof_at c stored at s is =
    ap (λ found. option_map_or (proof_on c) found []) (find_at (table_of c) stored at s (subst (λ name. IsAt name stored at s) (name_is c) is))

pub rows_changed : (c : Command) (stored : List Stored) → changes_rows c ≡ true → changed_trees c stored ≡ change_tree (command_name c) c stored
rows_changed (Create name columns key) stored rows = absurd (cc)
rows_changed (Drop name) stored rows = absurd (cc)
rows_changed (Insert name values) stored rows = refl
rows_changed (Update name sets column value) stored rows = refl
rows_changed (Delete name column value) stored rows = refl

-- the same of a name that is lent

pub unlike_lent : (n name : List ℕ) (stored : List Stored) → n ≡ name → AllByRecursion (IsUnlike n) stored → AllByRecursion (IsUnlike name) stored
unlike_lent n name stored same = subst (λ m. AllByRecursion (IsUnlike m) stored) same

pub at_lent : (n name : List ℕ) (stored : List Stored) (at : ℕ) (s : Stored) → n ≡ name → IsAt n stored at s → IsAt name stored at s
at_lent n name stored at s same = subst (λ m. IsAt m stored at s) same
