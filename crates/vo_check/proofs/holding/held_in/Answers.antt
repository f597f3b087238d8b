use Rattle.std.proofs.Common.{subst, arith}
use Rattle.std.proofs.Math.Nat.{min-le_left}
use Rattle.vo_check.specs.Streamed.{plan_for}
use Rattle.vo_check.specs.Checkings.{StandsBehind}
use Rattle.vo_check.specs.declared.progress.Progress.{Progress}
use Rattle.vo_check.proofs.HeldLaws.{front_held, has_head, holds_reply, no_head_at, no_head_yet, none_whole, not_both, whole_held}
use Rattle.vo_check.proofs.holding.held_in.Goals as goal

pub returns-in-Head-clause-front : goal.returns-in-Head-clause-front
returns-in-Head-clause-front c = λ q bytes stands streamed none within going.
    let here = subst (λ (p : Progress). StandsBehind q p bytes) c.in-Head.is stands in
    front_held c.in-Head.stream bytes c.held.result here.2 (c.held.ensures.front here.1 bytes here.3 (omega (arith, within)))

pub returns-in-Head-clause-needed : goal.returns-in-Head-clause-needed
returns-in-Head-clause-needed c = λ q bytes stands streamed has.
    let here = subst (λ (p : Progress). StandsBehind q p bytes) c.in-Head.is stands in
    absurd (no_head_yet c.in-Head.stream bytes here.1 here.2 has)

pub returns-in-Head-clause-kept : goal.returns-in-Head-clause-kept
returns-in-Head-clause-kept c = λ q bytes stands kept within going.
    let here = subst (λ (p : Progress). StandsBehind q p bytes) c.in-Head.is stands in
    absurd (not_both q here.0 kept)

pub returns-in-Trees-clause-front : goal.returns-in-Trees-clause-front
returns-in-Trees-clause-front c = λ q bytes stands streamed none within going.
    let here = subst (λ (p : Progress). StandsBehind q p bytes) c.in-Trees.is stands in
    absurd (none (has_head q c.in-Trees.reply bytes here.1))

pub returns-in-Trees-clause-needed : goal.returns-in-Trees-clause-needed
returns-in-Trees-clause-needed c = λ q bytes stands streamed has.
    let here = subst (λ (p : Progress). StandsBehind q p bytes) c.in-Trees.is stands in
    holds_reply q c.in-Trees.reply bytes c.saturating_add.result c.held-in-Trees.result here.1
    (grind (arith, min-le_left, c.saturating_add.ensures, c.size.ensures))
    (λ reads. c.held-in-Trees.ensures.within (plan_for q c.in-Trees.reply.head) reads.behind reads.trees_behind)

pub returns-in-Trees-clause-kept : goal.returns-in-Trees-clause-kept
returns-in-Trees-clause-kept c = λ q bytes stands kept within going.
    let here = subst (λ (p : Progress). StandsBehind q p bytes) c.in-Trees.is stands in
    absurd (not_both q here.0 kept)

pub returns-in-Buffered-clause-front : goal.returns-in-Buffered-clause-front
returns-in-Buffered-clause-front c = λ q bytes stands streamed none within going.
    let here = subst (λ (p : Progress). StandsBehind q p bytes) c.in-Buffered.is stands in
    absurd (not_both q streamed here.0)

pub returns-in-Buffered-clause-needed : goal.returns-in-Buffered-clause-needed
returns-in-Buffered-clause-needed c = λ q bytes stands streamed has.
    let here = subst (λ (p : Progress). StandsBehind q p bytes) c.in-Buffered.is stands in
    absurd (not_both q streamed here.0)

pub returns-in-Head-clause-found : goal.returns-in-Head-clause-found
returns-in-Head-clause-found c = λ q bytes head trees stands streamed parts within going.
    let here = subst (λ (p : Progress). StandsBehind q p bytes) c.in-Head.is stands in
    absurd (none_whole (plan_for q) bytes head trees (no_head_at c.in-Head.stream bytes here.1 here.2) parts)

pub returns-in-Trees-clause-found : goal.returns-in-Trees-clause-found
returns-in-Trees-clause-found c = λ q bytes head trees stands streamed parts within going.
    let here = subst (λ (p : Progress). StandsBehind q p bytes) c.in-Trees.is stands in
    let all = whole_held q c.in-Trees.reply bytes head trees here.1 parts in
    omega (arith, all.0, c.held-in-Trees.ensures.found trees all.1, c.size.ensures, c.saturating_add.ensures)

pub returns-in-Buffered-clause-found : goal.returns-in-Buffered-clause-found
returns-in-Buffered-clause-found c = λ q bytes head trees stands streamed parts within going.
    let here = subst (λ (p : Progress). StandsBehind q p bytes) c.in-Buffered.is stands in
    absurd (not_both q streamed here.0)
