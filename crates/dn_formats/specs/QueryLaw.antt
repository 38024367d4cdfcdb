-- Queries that can be written.
use Rattle.std.specs.Prelude.{◌≡◌, ◌^◌, true, map, nat_lt}
use Rattle.std.specs.List.{list_all}
use Rattle.base.specs.Name.{is_name_text}
use Rattle.dn_model.specs.Query.{IsAskedWithout, Question, names_asked, text_of_name}
use Rattle.dn_formats.specs.QueryWords.{addresses_in}

-- each of its names is one, each of its addresses is below 2^32, and for `delta` no link is down
pub record IsWritable (q : Question) : Type 0 where
  pub links : list_all is_name_text q.without ≡ true
  pub names : list_all is_name_text (map text_of_name (names_asked q.ask)) ≡ true
  pub addresses : list_all (λ a. nat_lt a (2 ^ 32)) (addresses_in q.ask) ≡ true
  pub without : IsAskedWithout q.without q.ask
