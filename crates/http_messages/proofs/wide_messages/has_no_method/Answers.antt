-- What a head may have is all that counts.
use Rattle.std.proofs.Common.{◌≡◌, ◌∙◌, ap, sym, length, take, arith, inl, inr, take_all}
use Rattle.std.proofs.lemmas.Bool.{cases_lt}
use Rattle.http_messages.specs.Heads.{most_head_bytes}
use Rattle.http_messages.specs.Wide.{begins_no_method}
use Rattle.http_messages.proofs.wide_messages.has_no_method.Goals as goal

-- the bytes that are looked at
pub returns : goal.returns
returns c = record {
  none = elim (cases_lt (length c.args.bytes.now) most_head_bytes) [
    | inl few ↦
        c.begins_no_method.ensures.none
        ∙ ap (λ n. begins_no_method (take n c.args.bytes.now)) (grind (arith, c.min.ensures, few))
        ∙ ap begins_no_method (take_all (length c.args.bytes.now) c.args.bytes.now (omega arith))
        ∙ sym (ap begins_no_method (take_all most_head_bytes c.args.bytes.now (omega (arith, few))))
    | inr many ↦
        let most : c.min.result ≡ most_head_bytes = grind (arith, c.min.ensures, many) in
        c.begins_no_method.ensures.none ∙ ap (λ n. begins_no_method (take n c.args.bytes.now)) most
  ];
}
