-- Worked rows of targets, keys and versions, computed.
use Rattle.std.specs.Prelude.{◌≡◌, codes, true, false, refl}
use Rattle.http_messages.specs.Plain.{host_for, plain_key, plain_method, plain_target}
use Rattle.http_messages.specs.Versions.{names_other_version}

pub head_as_get : plain_method (codes "HEAD") ≡ codes "GET"
head_as_get = refl

pub absolute : plain_target (codes "HTTP://d:80/stock") ≡ codes "/stock"
absolute = refl

pub host_of_target : host_for (codes "http://d:80/stock") (codes "e") ≡ codes "d:80"
host_of_target = refl

pub host_of_field : host_for (codes "/stock") (codes "e") ≡ codes "e"
host_of_field = refl

pub no_path : host_for (codes "http://d?/stock") (codes "e") ≡ codes "e"
no_path = refl

pub no_host : plain_target (codes "http:///stock") ≡ codes "http:///stock"
no_host = refl

pub empty_query : plain_target (codes "/stock?") ≡ codes "/stock"
empty_query = refl

pub some_query : plain_target (codes "/stock??") ≡ codes "/stock??"
some_query = refl

pub uuid : plain_key (codes "7d444840-9dc0-11d1-b245-5ffdce74fad2") ≡ codes "7d4448409dc011d1b2455ffdce74fad2"
uuid = refl

pub no_uuid : plain_key (codes "7d4448409-dc0-11d1-b245-5ffdce74fad2") ≡ codes "7d4448409-dc0-11d1-b245-5ffdce74fad2"
no_uuid = refl

pub version_2 : names_other_version (codes "PRI * HTTP/2.0\r\n\r\n") ≡ true
version_2 = refl

pub version_1 : names_other_version (codes "\r\nGET / HTTP/1.0\n\n") ≡ false
version_1 = refl
