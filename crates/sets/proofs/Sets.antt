-- The laws of sets that stand in proofs/Laws by one name. Nothing is defined here.
-- the tests for subsets and for disjoint sets, both ways
pub use Rattle.sets.proofs.Laws.Subsets.{sub_of_test, test_of_sub, apart_of_test, test_of_apart, subb-true, subb-false, sub-subb, apartb-true, apartb-false, apart-apartb}
pub use Rattle.sets.proofs.Laws.Subsets.{sub_of_has, has_of_sub, apart_of_has, has_of_apart, sub_refl, sub_trans, sub_lt, and-sub_l, and-sub_r, or-sub, apart_sym, apart-sub, minus-sub, minus-apart, half_sub}
-- sizes
pub use Rattle.sets.proofs.Laws.Sizes.{ones_none, ones-pow, ones-empty, ones_pos, ones-width, ones_bound, ones-or-and, ones-union, ones-minus, ones-sub, sub_eq, ones_strict, fresh}
-- one member more, one fewer, one for another
pub use Rattle.sets.proofs.Laws.Change.{bit-with_same, bit-with_other, with_lt, with_has, ones-with, ones-with_le, bit-less_same, bit-less_other, less_lt, less-width, with-less, ones-less}
pub use Rattle.sets.proofs.Laws.Change.{ones-trade, trade_lt, bit-trade_in, bit-trade_out, bit-trade_other}
pub use Rattle.sets.proofs.Laws.Drop.{bit-drop_same, bit-drop_other, drop-sub, drop_lt, with-drop, ones-drop, drop-less}
