-- The tests of WHERE, on the values that the desk stores. For the lemmas of each statement.
use Rattle.std.proofs.Common.{◌≡◌, ℕ, ◌==◌, ◌&&◌, ◌||◌, pos, List, Bool, true, false, Some, is_eq, ap, ◌∙◌, arith, bytes_eq, nat_le, nat_lt, int_cmp, is_gt, is_ge, is_le, rules}
use Rattle.std.proofs.lemmas.Int.{ints}
use Rattle.std.proofs.lemmas.Bool.Decides.{nat_tests}
use Rattle.std.proofs.lemmas.Map.Text.{is_eq-slice_cmp}
use Rattle.sqlite.specs.declared.types.Value.TheVariants.{Text}
use Rattle.sqlite.specs.Ops.{binary, is_true, from_truth}
use Rattle.sqlite_sql.specs.declared.ops.BinaryOp.TheVariants.{Compare}
use Rattle.sqlite_sql.specs.declared.ops.CompareOp.TheVariants.{Eq, Gt, Le, Ge}
use Rattle.sqlite_value.specs.declared.keys.Collation.TheVariants.{Binary}
use Rattle.sqlite_value.proofs.OrderLemmas.{value_cmp-Int, value_cmp-Text}
use Rattle.desk_sql.specs.Rows.{whole}

pub truth_is : (b : Bool) → is_true (from_truth (Some b)) ≡ b
truth_is b = search (rules, arith)

int_eq : (a b : ℕ) → is_eq (int_cmp (pos a) (pos b)) ≡ (a == b)
int_eq a b = grind (arith, ints, nat_tests)

int_ge : (a b : ℕ) → is_ge (int_cmp (pos a) (pos b)) ≡ nat_le b a
int_ge a b = grind (arith, ints, nat_tests)

int_le : (a b : ℕ) → is_le (int_cmp (pos a) (pos b)) ≡ nat_le a b
int_le a b = grind (arith, ints, nat_tests)

int_gt : (a b : ℕ) → is_gt (int_cmp (pos a) (pos b)) ≡ nat_lt b a
int_gt a b = grind (arith, ints, nat_tests)

-- the value of each comparison, and whether it is true
pub eq_value : (a b : ℕ) → binary (Compare Eq Binary) (whole a) (whole b) ≡ from_truth (Some (a == b))
unfolding binary
eq_value a b = simp (value_cmp-Int, int_eq)

pub ge_value : (a b : ℕ) → binary (Compare Ge Binary) (whole a) (whole b) ≡ from_truth (Some (nat_le b a))
unfolding binary
ge_value a b = simp (value_cmp-Int, int_ge)

pub le_value : (a b : ℕ) → binary (Compare Le Binary) (whole a) (whole b) ≡ from_truth (Some (nat_le a b))
unfolding binary
le_value a b = simp (value_cmp-Int, int_le)

pub eq_whole : (a b : ℕ) → is_true (binary (Compare Eq Binary) (whole a) (whole b)) ≡ (a == b)
eq_whole a b = ap is_true (eq_value a b) ∙ truth_is _

pub ge_whole : (a b : ℕ) → is_true (binary (Compare Ge Binary) (whole a) (whole b)) ≡ nat_le b a
ge_whole a b = ap is_true (ge_value a b) ∙ truth_is _

pub le_whole : (a b : ℕ) → is_true (binary (Compare Le Binary) (whole a) (whole b)) ≡ nat_le a b
le_whole a b = ap is_true (le_value a b) ∙ truth_is _

pub gt_whole : (a b : ℕ) → is_true (binary (Compare Gt Binary) (whole a) (whole b)) ≡ nat_lt b a
unfolding binary
gt_whole a b = truth_is _ ∙ ap is_gt (value_cmp-Int (pos a) (pos b)) ∙ int_gt a b

pub eq_text : (a b : List ℕ) → is_true (binary (Compare Eq Binary) (Text a) (Text b)) ≡ bytes_eq a b
unfolding binary
eq_text a b = truth_is _ ∙ ap is_eq (value_cmp-Text a b) ∙ is_eq-slice_cmp a b

pub and_true : (b : Bool) → (b && true) ≡ b
and_true b = search (rules, arith)

pub or_false : (b : Bool) → (b || false) ≡ b
or_false b = search (rules, arith)
