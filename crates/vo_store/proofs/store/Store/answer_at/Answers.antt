use Rattle.std.proofs.Common.{◌≡◌, ℕ, ◌-◌, ◌≤◌, List, Result, Err, sym, ap, subst, ◌∙◌, inl, inr, arith}
use Rattle.vo_spec.specs.Conditions.{Query, query_of}
use Rattle.vo_store.specs.declared.fault.StoreFault.{StoreFault}
use Rattle.vo_store.specs.declared.fault.StoreFault.TheVariants.{Empty, NoVersion}
use Rattle.vo_store.specs.declared.kept_version.KeptVersion.{KeptVersion}
use Rattle.vo_store.specs.declared.signed_record.SignedRecord.{SignedRecord}
use Rattle.vo_store.specs.StoreState.{StoreState, oldest_of}
use Rattle.vo_store.specs.HonestStores.{IsAnswering}
use Rattle.vo_store.specs.Calls.{Gives, answer_at_of, kept_at, reply_by_kept}
use Rattle.vo_store.proofs.CallLaws.{version_kept, version_none, version_not_kept}
use Rattle.vo_store.proofs.HonestLaws.{answers_at}
use Rattle.vo_store.proofs.store.Store.answer_at.Goals as goal

pub returns-then-version-oldest : goal.returns-then-version-oldest
returns-then-version-oldest c =
    let s : StoreState = record { key = c.self.inside.key; earlier = c.self.inside.earlier.items; installed = c.self.inside.installed; tables = c.self.inside.tables; pending = c.self.inside.pending } in
    let q : Query = query_of c.args.query.now in
    let newest : SignedRecord = c.in-Some.installed in
    let outside : oldest_of newest.rec.version ≤ c.args.version → c.args.version ≤ newest.rec.version → ⊥ = λ above below.
    elim c.then-version-oldest.either [
      | inl t ↦ absurd (omega (arith, t, above, c.oldest_version-oldest.ensures))
      | inr t ↦ absurd (omega (arith, t.1, below))
    ] in
    subst (λ (t : StoreState). answer_at_of t c.args.version q ≡ Err (NoVersion c.args.version c.oldest_version-oldest.result newest.rec.version)) c.self.view_is
    (version_not_kept s q c.args.version newest c.in-Some.is outside
    ∙ ap (λ (n : ℕ). Err (NoVersion c.args.version n newest.rec.version)) (sym c.oldest_version-oldest.ensures))

pub answer_by_kept-requires : goal.answer_by_kept-requires
answer_by_kept-requires c =
    let s : StoreState = record { key = c.self.inside.key; earlier = c.self.inside.earlier.items; installed = c.self.inside.installed; tables = c.self.inside.tables; pending = c.self.inside.pending } in
    let newest : SignedRecord = c.in-Some.installed in
    let above : oldest_of newest.rec.version ≤ c.args.version = omega (arith, c.oldest_version-oldest.ensures, c.if-version-oldest.false) in
    subst (λ (ks : List KeptVersion). IsAnswering (kept_at ks newest s.tables (c.args.version - c.oldest_version-oldest.result))) (sym c.deref.ensures.value)
    (subst (λ (n : ℕ). IsAnswering (kept_at s.earlier newest s.tables (c.args.version - n))) (sym c.oldest_version-oldest.ensures)
    (answers_at s c.self.invariant newest c.in-Some.is c.args.version above c.if-newest-version.false))

pub returns-else-newest-version : goal.returns-else-newest-version
returns-else-newest-version c =
    let s : StoreState = record { key = c.self.inside.key; earlier = c.self.inside.earlier.items; installed = c.self.inside.installed; tables = c.self.inside.tables; pending = c.self.inside.pending } in
    let q : Query = query_of c.args.query.now in
    let newest : SignedRecord = c.in-Some.installed in
    let above : oldest_of newest.rec.version ≤ c.args.version = omega (arith, c.oldest_version-oldest.ensures, c.if-version-oldest.false) in
    subst (λ (t : StoreState). Gives (λ bytes. bytes.items) c.answer_by_kept.result (answer_at_of t c.args.version q)) c.self.view_is
    (subst (λ (r : Result (List ℕ) StoreFault). Gives (λ bytes. bytes.items) c.answer_by_kept.result r)
    (ap (λ (ks : List KeptVersion). reply_by_kept q (kept_at ks newest s.tables (c.args.version - c.oldest_version-oldest.result))) c.deref.ensures.value
    ∙ ap (λ (n : ℕ). reply_by_kept q (kept_at s.earlier newest s.tables (c.args.version - n))) c.oldest_version-oldest.ensures
    ∙ version_kept s q c.args.version newest c.in-Some.is above c.if-newest-version.false)
    c.answer_by_kept.ensures)

pub returns-in-None : goal.returns-in-None
returns-in-None c =
    let s : StoreState = record { key = c.self.inside.key; earlier = c.self.inside.earlier.items; installed = c.self.inside.installed; tables = c.self.inside.tables; pending = c.self.inside.pending } in
    subst (λ (t : StoreState). answer_at_of t c.args.version (query_of c.args.query.now) ≡ Err Empty) c.self.view_is (version_none s (query_of c.args.query.now) c.args.version c.in-None.is)
