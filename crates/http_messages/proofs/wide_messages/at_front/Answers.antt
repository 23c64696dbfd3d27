-- What is found after the decided prefix is what is taken.
use Rattle.std.proofs.Common.{arith, ap, Err}
use Rattle.std.proofs.lemmas.List.{take_rest}
use Rattle.http_messages.proofs.WideFirstLemmas.{is_open, takes_asks, takes_bad, takes_large, takes_no_head, takes_unread}
use Rattle.http_messages.proofs.wide_messages.at_front.Goals as goal

-- a prefix that is no head
pub returns-in-Err : goal.returns-in-Err
returns-in-Err c = search (arith, takes_no_head)

-- a body that is not read
pub returns-in-Err-kind : goal.returns-in-Err-kind
returns-in-Err-kind c = grind (arith, takes_unread)

-- a body that is not whole
pub returns-in-Ok-More : goal.returns-in-Ok-More
returns-in-Ok-More c = record {
  first = is_open c.requires.told c.requires.method c.in-Ok.ensures.head c.in-Ok-kind.ensures.kind
      (rw (c.in-Ok-More.field-0-is, c.new-reader.ensures.first, take_rest) at c.in-Ok-More.ensures.reads);
}

-- a request
pub returns-in-Ok-Whole : goal.returns-in-Ok-Whole
returns-in-Ok-Whole c = record {
  first = takes_asks c.requires.told c.requires.method c.in-Ok.ensures.head c.in-Ok-kind.ensures.kind
      (rw (c.in-Ok-Whole.field-0-is, c.new-reader.ensures.first, take_rest) at c.in-Ok-Whole.ensures.reads)
      (rw c.method.ensures.method at c.asked_kind.ensures.kind)
      (rw c.into_body.ensures.body at c.in_ok-plain_request-in-Ok-Whole.ensures.says);
}

-- too many bytes
pub returns-in-Err-TooLarge : goal.returns-in-Err-TooLarge
returns-in-Err-TooLarge c = record {
  first = takes_large c.requires.told c.requires.method c.in-Ok.ensures.head _ c.in-Ok-kind.ensures.kind
      (rw (c.new-reader.ensures.first, take_rest) at (c.in-Err-TooLarge.ensures.too_large (ap Err c.in-Err-TooLarge.field-0-is)));
}

-- no chunks
pub returns : goal.returns
returns c = record {
  first = takes_bad c.requires.told c.requires.method c.in-Ok.ensures.head _ c.in-Ok-kind.ensures.kind c.in-Ok-kind.ensures.within
      (rw (c.new-reader.ensures.first, take_rest) at (c.in-Err-Malformed.ensures.malformed (ap Err c.in-Err-Malformed.field-0-is)));
}
