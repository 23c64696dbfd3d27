use Rattle.std.proofs.Common.{◌≡◌, take, true, string_bytes}
use Rattle.http_log.specs.Shown.{shown_bytes}
use Rattle.http_log.proofs.PrintableLemmas.{prints}
use Rattle.http_log.proofs.escaping.shown_whole.Given as goal

-- the text has the bytes so far
abbrev pub invariant-loop-byte : goal.invariant-loop-byte
invariant-loop-byte l = record {
  text : string_bytes l.text ≡ shown_bytes (take l.byte-index l.bytes);
  printable : prints (string_bytes l.text) ≡ true;
}
