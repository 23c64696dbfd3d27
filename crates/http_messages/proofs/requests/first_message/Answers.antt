-- The first message is the decided prefix, or the request of which it is the head.
use Rattle.std.proofs.Common.{◌≡◌, ◌∙◌, ap, arith, drop, subst, take}
use Rattle.http_messages.specs.Requests.{IsRequest}
use Rattle.http_messages.proofs.FirstLemmas.{no_front_none, no_head_first, none_whole, request_first}
use Rattle.http_messages.proofs.requests.first_message.Goals as goal

-- no prefix is decided
pub returns-in_default : goal.returns-in_default
returns-in_default c = grind (arith, no_front_none)

-- the prefix is no head
pub returns-in_default-read : goal.returns-in_default-read
returns-in_default-read c = grind (arith, no_head_first)

-- the body is not whole
pub returns-then-bytes-end : goal.returns-then-bytes-end
returns-then-bytes-end c =
    record {
      first = none_whole c.args.bytes.now c.in-Some.end c.body_length-count.result c.in-Ok.head c.in-Some.ensures.front
          c.in-Ok.ensures.head c.body_length-count.ensures.length (omega (arith, c.in-Some.ensures.front.within, c.if-bytes-end.true));
    }

-- the request is whole
pub returns : goal.returns
returns c =
    let end = c.in-Some.end in
    let count = c.body_length-count.result in
    let bytes = c.args.bytes.now in
    let is_body : c.in_ok-body.body.items ≡ take count (drop end bytes) =
    c.in_ok-body.ensures.items_if_clones_equal (λ x y same. same) ∙ ap (λ n. take n (drop end bytes)) (omega arith) in
    record {
      first = request_first bytes end count c.in-Ok.head c.in-Some.ensures.front
          c.in-Ok.ensures.head c.body_length-count.ensures.length c.in_ok-request.request
          (omega (arith, c.in-Some.ensures.front.within, c.if-bytes-end.false))
          (subst (λ body. IsRequest c.in_ok-request.request c.in-Ok.head body) is_body
          c.in_ok-request.ensures.request);
    }
