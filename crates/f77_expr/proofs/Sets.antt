-- The lemmas that each function of the parser takes.
use Rattle.f77_expr.specs.Grammar.{by_equivalence, by_or, by_and, by_sign, by_star}
use Rattle.f77_expr.proofs.Chains.{best_stop, best_go}
use Rattle.f77_expr.proofs.Rules.{best_chain, fails_chain, best_negated, fails_negated, best_kept, fails_kept, best_sum, fails_sum, best_asserted, fails_asserted, best_denied, fails_denied}
use Rattle.f77_expr.proofs.Options.{best_alone, best_compared, fails_relation, fails_factor}
use Rattle.f77_expr.proofs.Powers.{powers-none, powers-push, powers_start, powers_all}
use Rattle.f77_expr.proofs.Primaries.{best_number, best_yes, best_no, fails_word, best_bare, best_unlisted, best_applied, best_paren, fails_inner, fails_unclosed, fails_begun}
use Rattle.f77_expr.proofs.Listed.{empty_list, filled_list, no_items, last_item, more_items, no_item, no_end, no_after}

pub ruleset groups = (powers-none, powers-push)

pub ruleset lefts = (by_equivalence, by_or, by_and, by_sign, by_star)

pub ruleset chains = (best_chain, fails_chain)

pub ruleset joins = (best_stop, best_go)

pub ruleset sums = (best_negated, fails_negated, best_kept, fails_kept, best_sum, fails_sum, by_sign)

pub ruleset negations = (best_asserted, fails_asserted, best_denied, fails_denied)

pub ruleset relations = (best_alone, best_compared, fails_relation)

pub ruleset factors = (powers_start, powers_all, fails_factor)

pub ruleset names = (best_bare, best_unlisted, best_applied, fails_word)

pub ruleset starts = (best_yes, best_no, fails_begun)

pub ruleset parens = (best_paren, fails_inner, fails_unclosed)

pub ruleset lists = (empty_list, filled_list, no_items)

pub ruleset many = (last_item, more_items, no_item, no_end, no_after)
