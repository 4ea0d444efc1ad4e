-- The lemmas that the check tries at the goals of each function.
use Rattle.mask.specs.FewLaws.{most_few, odd_run}
use Rattle.polynomial.proofs.Keys.{front_size, most_products, outcome_long, product_keys, product_more, run_masks, run_written, sum_by_terms, sum_in_order, sum_masks, table_keys, table_product}
use Rattle.polynomial.proofs.OrderSteps.{same_term, other_term, ended}
use Rattle.polynomial.proofs.ToggleSteps.{none_yet, one_more, all_ahead, within, taken_out, put_in, left_out}
use Rattle.mask.proofs.KeySteps.{room, next_row}
use Rattle.run.specs.BooleanLaws.{of_true}
use Rattle.std.proofs.lemmas.Slice.Zip.{zip_turn, zip_end}
use Rattle.polynomial.specs.ToggleLaws.{place_above, place_below, place_le}
use Rattle.polynomial.specs.ClauseLaws.{clause_both_ways, clause_length, length_joined}
use Rattle.polynomial.specs.LengthLaws.{product_length, sum_length}
use Rattle.polynomial.specs.PolynomialLaws.{exact, placed_long, product_ordered, product_turned, sum_ordered}
use Rattle.run.proofs.RunSteps.{in_order}
use Rattle.std.proofs.Math.ListN.{length-replicate}
use Rattle.std.proofs.Math.Seq.{take_all}
use Rattle.term.specs.TermLaws.{degree_le}
use lib.Bits.{bit_or}
use lib.Dec.{lit<}
use lib.Pow.{pow-lt, pow_mono, shl_exact}
use lib.Seq.{length-take-le}

pub ruleset uses_Polynomial_clause = (lit<, pow-lt, shl_exact, degree_le, clause_both_ways, clause_length, outcome_long)

pub ruleset uses_few_arranged = (bit_or, length-take-le, length_joined, placed_long, run_masks)

pub ruleset uses_few_product_by = (length-replicate, odd_run, table_product)

pub ruleset uses_few_product_few = (pow_mono)

pub ruleset uses_order_compare = (zip_turn, zip_end, same_term, other_term, ended)

pub ruleset uses_plus_product_keys = (pow_mono, length-take-le, most_few, most_products, product_keys, table_keys)

pub ruleset uses_plus_write_plus_product = (length-take-le, product_length, product_turned, exact, most_products)

pub ruleset uses_product_short_product = (room, next_row, product_ordered, product_more)

pub ruleset uses_product_write_product = (length-take-le, product_length, product_turned, most_products, run_written)

pub ruleset uses_sum_write_sum = (bit_or, length-take-le, in_order, sum_masks, sum_in_order, sum_by_terms, front_size, run_written)

pub ruleset uses_toggle_place_of = (of_true, place_above, place_below, place_le, all_ahead)

pub ruleset uses_toggle_toggle = (within, taken_out, put_in, left_out)

pub ruleset uses_toggle_toggle_all = (length-take-le, take_all, sum_ordered, sum_length, none_yet, one_more)
