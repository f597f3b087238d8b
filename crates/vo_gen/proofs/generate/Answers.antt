use Rattle.std.proofs.Common.{◌≡◌, List, All, ap, sym, subst, ◌∙◌}
use Rattle.vo_spec.specs.declared.tables.Batch.{Batch}
use Rattle.vo_spec.specs.declared.queries.QueryText.{QueryText}
use Rattle.vo_spec.specs.Batches.{FitsBatch}
use Rattle.vo_spec.specs.Conditions.{query_of, FitsQuery}
use Rattle.vo_gen.specs.Words.{word_of, Drawn}
use Rattle.vo_gen.specs.Workload.{Drawing, batches_of, batches, queries_of, queries}
use Rattle.vo_gen.proofs.Sizes.{batches_fit, queries_fit}
use Rattle.vo_gen.proofs.generate.Goals as goal

pub returns-clause-fits : goal.returns-clause-fits
returns-clause-fits c =
    let made : c.in_ok-batches.batches ≡ batches c.args.n c.args.number =
    c.in_ok-batches.ensures.batches
    ∙ ap (λ (d : Drawing). batches_of (word_of d.key) c.args.n) c.in_ok-drawing.ensures in
    let asked : c.in_ok-queries.queries ≡ queries c.args.n c.args.number =
    c.in_ok-queries.ensures
    ∙ ap (λ (w : Drawn). queries_of (word_of w.key) c.args.n) c.into_words.ensures
    ∙ ap (λ (d : Drawing). queries_of (word_of d.key) c.args.n) c.in_ok-batches.ensures.rest
    ∙ ap (λ (d : Drawing). queries_of (word_of d.key) c.args.n) c.in_ok-drawing.ensures in (
      subst (λ (bs : List Batch). All (λ (b : Batch). FitsBatch b.commands) bs) (sym made)
          (batches_fit c.args.n c.args.number c.requires),
      subst (λ (qs : List QueryText). All (λ (q : QueryText). FitsQuery (query_of q)) qs) (sym asked)
          (queries_fit c.args.n c.args.number c.requires),
    )
