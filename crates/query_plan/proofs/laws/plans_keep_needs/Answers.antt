use Rattle.query_plan.proofs.MeaningLaws.{uncut_need_same, left_need_same, right_need_same, value_same, meets_same, counts_same}
use Rattle.query_plan.proofs.laws.plans_keep_needs.Goals as goal

pub returns-clause-uncut : goal.returns-clause-uncut
returns-clause-uncut c = λ ss q. uncut_need_same ss q

pub returns-clause-left : goal.returns-clause-left
returns-clause-left c = λ ss q left. left_need_same ss q left

pub returns-clause-right : goal.returns-clause-right
returns-clause-right c = λ ss q j row_view. right_need_same ss q j row_view

pub returns-clause-valued : goal.returns-clause-valued
returns-clause-valued c = λ ss j row_view. value_same ss j row_view

pub returns-clause-kept : goal.returns-clause-kept
returns-clause-kept c = λ ss q row_view. meets_same ss q row_view

pub returns-clause-meets : goal.returns-clause-meets
returns-clause-meets c = λ ss q row. counts_same ss q row
