use Rattle.std.proofs.Common.{◌≡◌, ◌-◌, ◌∙◌, List, ℕ, arith, bytes_eq, codes, drop, false, length, subst, take}
use Rattle.std.proofs.lemmas.List.{length-drop, take_all}
use Rattle.http_live.proofs.TextLemmas.{after_name-missed}
use Rattle.http_live.proofs.texts.refusal_in.Goals as goal

pub loop-at-preserved : goal.loop-at-preserved
loop-at-preserved c =
    let at = c.loop-at.at in
    let page = c.args.page.now in
    let name = codes "\"refused\":" in
    let rest : take (length page - at) (drop at page) ≡ drop at page =
    take_all (length page - at) (drop at page) (omega (arith, length-drop at page)) in
    let missed : bytes_eq (take (length name) (drop at page)) name ≡ false =
    subst (λ (text : List ℕ). bytes_eq (take (length name) text) name ≡ false) rest c.in_default.ensures.cases in
    after_name-missed name page at (omega arith) missed ∙ c.loop-at.invariant
