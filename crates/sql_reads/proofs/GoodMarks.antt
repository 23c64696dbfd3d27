-- A save-point that was taken is in range. For `reads::read_marks`.
use Rattle.std.proofs.Common.{◌≡◌, inl, inr, ℕ, List, [], ◌∷◌, IsTrue, true, sym, ◌∙◌, arith, eq-eqb, ◌==◌, Option, Some, None, false, refl, ap, nat_le}
use Rattle.std.specs.List.{AllByRecursion, list_any}
use Rattle.std.proofs.lemmas.Bool.{and_from, le-leb, or_left, or_right}
use Rattle.sqlite_rules.specs.Lists.{Has}
use Rattle.sqlite_rules.proofs.ListLemmas.{all_from}
use Rattle.allotment.specs.Limits.{is_between}
use Rattle.plan.specs.Marks.{last_mark}
use Rattle.ledger.specs.History.{is_taken}
use Rattle.ledger.specs.Ledger.{Event, history, IsLegal, Journey, journey_at}
use Rattle.ledger.proofs.Ledgers.{all_go}
use Rattle.ledger.proofs.Histories.{follows}

any_has : (xs : List ℕ) (q : ℕ) → Has xs q → list_any (λ x. x == q) xs ≡ true
any_has [] q h = absurd h
any_has (x ∷ xs) q (inl is) = or_left _ _ (eq-eqb x q (sym is))
any_has (x ∷ xs) q (inr h) = or_right _ _ (any_has xs q h)

taken_low : (l : List Event) → IsLegal l → (id p : ℕ) → is_taken (history l id) p ≡ true → IsTrue (is_between 1 last_mark p)
taken_low l legal id p taken = go (journey_at l id) refl
  where
    go : (o : Option Journey) → journey_at l id ≡ o → IsTrue (is_between 1 last_mark p)
    go None e =
        let none : history l id ≡ [] = (all_go l legal).none id e in
        absurd (let no : false ≡ true = sym (ap (λ h. is_taken h p) none) ∙ taken in cc)
    go (Some a) e =
        let rules = follows l legal id a e in
        let within = rules.taken p taken in
        and_from (nat_le 1 p) (nat_le p last_mark) (le-leb 1 p within.from_one)
        (le-leb p last_mark (let few = rules.few in let short = within.short in omega (arith, few, short)))

pub good_marks : (l : List Event) → IsLegal l → (id : ℕ) (found : List ℕ)
    → ((p : ℕ) → list_any (λ q. q == p) found ≡ is_taken (history l id) p)
    → AllByRecursion (λ p. IsTrue (is_between 1 last_mark p)) found
good_marks l legal id found says =
    all_from _ found (λ p h. taken_low l legal id p (sym (says p) ∙ any_has found p h))
