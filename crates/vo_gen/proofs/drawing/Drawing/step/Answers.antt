use Rattle.std.proofs.Common.{arith, ◌≡◌, ◌+◌, ◌*◌, ◌<◌, ℕ, ◌%◌, false, not, ◌&&◌, ap, sym, ◌∙◌}
use Rattle.std.proofs.lemmas.Grind.{common_steps}
use Rattle.std.proofs.lemmas.List.{get_or_read_under}
use Rattle.vo_gen.specs.Words.{word_of, Drawn}
use Rattle.vo_gen.specs.Workload.{stands, is_even, Drawing}
use Rattle.vo_gen.proofs.Standing.{marked, step_is}
use Rattle.vo_gen.proofs.drawing.Drawing.step.Goals as goal

-- the two words are the step's

at : (c : goal.After-of) → c.next.result
    ≡ word_of c.self.inside.words.key (2 * c.self.inside.steps)
at c = c.next.ensures.word ∙ ap (word_of c.self.inside.words.key) c.self.invariant.0

first_key : (c : goal.After-of) → c.next.new.self.key ≡ c.self.inside.words.key
first_key c = ap (λ (d : Drawn). d.key) c.next.ensures.rest

first_place : (c : goal.After-of) → c.next.new.self.place ≡ 2 * c.self.inside.steps + 1
first_place c =
    let first : c.next.new.self.place ≡ c.self.inside.words.place + 1 =
    ap (λ (d : Drawn). d.place) c.next.ensures.rest in
    omega arith

mark : (c : goal.After-of) → c.next-mark.result
    ≡ word_of c.self.inside.words.key (2 * c.self.inside.steps + 1)
mark c = rw (← first_key c, ← first_place c) c.next-mark.ensures.word

within : (c : goal.After-of) → c.next.result % c.self.inside.keys < c.self.inside.keys
within c = omega arith

-- what is read tells whether the key stands
stood : (c : goal.After-of) → c.index-stands.result.now
    ≡ stands (word_of c.self.inside.words.key) c.self.inside.keys c.self.inside.steps
    (c.next.result % c.self.inside.keys)
stood c =
    get_or_read_under c.self.inside.standing.items (c.next.result % c.self.inside.keys)
    c.self.inside.keys c.index-stands.result.now false c.index-stands.ensures (within c)
    (sym c.self.invariant.3)
    ∙ c.self.invariant.4 (c.next.result % c.self.inside.keys) (within c)

pub invariant_of-self : goal.invariant_of-self
invariant_of-self c =
    let first : c.next.new.self.place ≡ 2 * c.self.inside.steps + 1 = first_place c in
    let second : c.next-mark.new.self.place ≡ c.next.new.self.place + 1 =
    ap (λ (d : Drawn). d.place) c.next-mark.ensures.rest in
    let second_key : c.next-mark.new.self.key ≡ c.next.new.self.key =
    ap (λ (d : Drawn). d.key) c.next-mark.ensures.rest in
    let drawn : c.self.inside.steps ≡ c.args.self.now.steps =
    ap (λ (d : Drawing). d.steps) c.self.view_is in
    let kept : c.stands_behind.result ≡ not (stands (word_of c.self.inside.words.key)
    c.self.inside.keys c.self.inside.steps (c.next.result % c.self.inside.keys)
    && is_even (word_of c.self.inside.words.key (2 * c.self.inside.steps + 1))) =
    rw (← stood c, ← mark c) c.stands_behind.ensures in (
      omega arith,
      omega arith,
      omega arith,
      grind (arith, common_steps),
      rw (second_key, first_key c)
          (marked (word_of c.self.inside.words.key) c.self.inside.keys c.self.inside.steps
          (c.next.result % c.self.inside.keys) c.stands_behind.result c.self.inside.standing.items
          (ap (λ (w : ℕ). w % c.self.inside.keys) (at c)) c.self.invariant.3 (within c) kept
          c.self.invariant.4),
    )

pub returns-clause-step : goal.returns-clause-step
returns-clause-step c =
    rw (← c.self.view_is)
    (rw (
      step_is (word_of c.self.inside.words.key) c.self.inside.keys c.self.inside.steps,
      ← at c,
      ← mark c,
      ← stood c,
    )
    c.of.ensures)
