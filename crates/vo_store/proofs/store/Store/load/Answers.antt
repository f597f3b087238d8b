use Rattle.std.proofs.Common.{◌≡◌, ℕ, ◌+◌, List, [], ◌∷◌, ◌++◌, Ok, Err, false, true, take, sym, ap, subst, ◌∙◌, arith}
use Rattle.std.proofs.lemmas.List.{take_all}
use Rattle.vo_spec.specs.declared.records.Entry.{Entry}
use Rattle.vo_spec.specs.Owners.{AreLoadable}
use Rattle.owner_state.specs.Walking.{StopsAt}
use Rattle.owner_state.proofs.LeadLaws.{take_next}
use Rattle.vo_store.specs.StoreState.{StoreState}
use Rattle.vo_store.specs.Loading.{TakesEntry, load_entries, store_behind}
use Rattle.vo_store.proofs.LoadLaws.{behind_key, behind_none, loaded_err, loaded_ok}
use Rattle.vo_store.proofs.store.Store.load.Goals as goal

pub loop-index-init : goal.loop-index-init
unfolding AreLoadable
loop-index-init c = record { taken = tt; behind = c.in_ok-store.ensures ∙ sym (behind_none c.args.key) }

pub take_entry-requires-clause-taken : goal.take_entry-requires-clause-taken
take_entry-requires-clause-taken c =
    let key : List ℕ = c.args.key in
    let es : List Entry = c.args.entries.now in
    let n : ℕ = c.loop-index.index in
    let key_is : c.loop-index.store.key ≡ key = ap (λ (t : StoreState). t.key) c.loop-index.invariant.behind ∙ behind_key key (take n es) in
    subst (λ (k : List ℕ). AreLoadable k (take n es)) (sym key_is) c.loop-index.invariant.taken

pub take_entry-requires-clause-behind : goal.take_entry-requires-clause-behind
take_entry-requires-clause-behind c =
    let key : List ℕ = c.args.key in
    let es : List Entry = c.args.entries.now in
    let n : ℕ = c.loop-index.index in
    let key_is : c.loop-index.store.key ≡ key = ap (λ (t : StoreState). t.key) c.loop-index.invariant.behind ∙ behind_key key (take n es) in
    c.loop-index.invariant.behind ∙ ap (λ (k : List ℕ). store_behind k (take n es)) (sym key_is)

pub returns-then-not-branch-clause-refused : goal.returns-then-not-branch-clause-refused
returns-then-not-branch-clause-refused c =
    let key : List ℕ = c.args.key in
    let es : List Entry = c.args.entries.now in
    let n : ℕ = c.loop-index.index in
    let key_is : c.loop-index.store.key ≡ key = ap (λ (t : StoreState). t.key) c.loop-index.invariant.behind ∙ behind_key key (take n es) in
    let e : Entry = c.index-entries-index.result in
    let more : take (n + 1) es ≡ take n es ++ e ∷ [] = take_next es n e c.loop-index-test.true c.index-entries-index.is in
    let no : c.in_ok-take_entry.field-0 ≡ false = cc in
    let never : AreLoadable c.loop-index.store.key (take n es ++ e ∷ []) → ⊥ = subst (TakesEntry c.loop-index.store.key (take n es) e c.take_entry.new.self) no c.in_ok-take_entry.ensures in
    let stop : StopsAt (AreLoadable key) es n = record {
      within = c.loop-index-test.true;
      so_far = c.loop-index.invariant.taken;
      not_on = λ on. never (subst (λ (k : List ℕ). AreLoadable k (take n es ++ e ∷ [])) (sym key_is) (subst (AreLoadable key) more on));
    } in
    λ index same.
    let number : n ≡ index = cc in
    subst (λ (i : ℕ). load_entries key es ≡ Err i) number (loaded_err key es n c.requires stop)

pub returns-then-not-branch-clause-stops : goal.returns-then-not-branch-clause-stops
returns-then-not-branch-clause-stops c =
    let key : List ℕ = c.args.key in
    let es : List Entry = c.args.entries.now in
    let n : ℕ = c.loop-index.index in
    let key_is : c.loop-index.store.key ≡ key = ap (λ (t : StoreState). t.key) c.loop-index.invariant.behind ∙ behind_key key (take n es) in
    let e : Entry = c.index-entries-index.result in
    let more : take (n + 1) es ≡ take n es ++ e ∷ [] = take_next es n e c.loop-index-test.true c.index-entries-index.is in
    let no : c.in_ok-take_entry.field-0 ≡ false = cc in
    let never : AreLoadable c.loop-index.store.key (take n es ++ e ∷ []) → ⊥ = subst (TakesEntry c.loop-index.store.key (take n es) e c.take_entry.new.self) no c.in_ok-take_entry.ensures in
    let stop : StopsAt (AreLoadable key) es n = record {
      within = c.loop-index-test.true;
      so_far = c.loop-index.invariant.taken;
      not_on = λ on. never (subst (λ (k : List ℕ). AreLoadable k (take n es ++ e ∷ [])) (sym key_is) (subst (AreLoadable key) more on));
    } in
    λ index same.
    let number : n ≡ index = cc in
    subst (StopsAt (AreLoadable key) es) number stop

pub loop-index-preserved : goal.loop-index-preserved
loop-index-preserved c =
    let key : List ℕ = c.args.key in
    let es : List Entry = c.args.entries.now in
    let n : ℕ = c.loop-index.index in
    let key_is : c.loop-index.store.key ≡ key = ap (λ (t : StoreState). t.key) c.loop-index.invariant.behind ∙ behind_key key (take n es) in
    let e : Entry = c.index-entries-index.result in
    let more : take (n + 1) es ≡ take n es ++ e ∷ [] = take_next es n e c.loop-index-test.true c.index-entries-index.is in
    let yes : c.in_ok-take_entry.field-0 ≡ true = cc in
    let t : TakesEntry c.loop-index.store.key (take n es) e c.take_entry.new.self true =
    subst (TakesEntry c.loop-index.store.key (take n es) e c.take_entry.new.self) yes c.in_ok-take_entry.ensures in
    record {
      taken = subst (AreLoadable key) (sym more) (subst (λ (k : List ℕ). AreLoadable k (take n es ++ e ∷ [])) key_is t.0);
      behind = t.1 ∙ ap (λ (k : List ℕ). store_behind k (take n es ++ e ∷ [])) key_is ∙ ap (store_behind key) (sym more);
    }

pub returns-clause-loaded : goal.returns-clause-loaded
returns-clause-loaded c =
    let es : List Entry = c.args.entries.now in
    let all : take c.loop-index.index es ≡ es = take_all c.loop-index.index es (omega (arith, c.loop-index-test.false)) in
    loaded_ok c.args.key es c.requires (subst (AreLoadable c.args.key) all c.loop-index.invariant.taken)
    ∙ ap Ok (sym (c.loop-index.invariant.behind ∙ ap (store_behind c.args.key) all))

pub returns-clause-taken : goal.returns-clause-taken
returns-clause-taken c =
    let es : List Entry = c.args.entries.now in
    let all : take c.loop-index.index es ≡ es = take_all c.loop-index.index es (omega (arith, c.loop-index-test.false)) in
    subst (AreLoadable c.args.key) all c.loop-index.invariant.taken

pub returns-clause-state : goal.returns-clause-state
returns-clause-state c =
    let es : List Entry = c.args.entries.now in
    let all : take c.loop-index.index es ≡ es = take_all c.loop-index.index es (omega (arith, c.loop-index-test.false)) in
    c.loop-index.invariant.behind ∙ ap (store_behind c.args.key) all
