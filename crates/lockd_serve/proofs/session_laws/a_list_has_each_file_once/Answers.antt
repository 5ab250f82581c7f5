use Rattle.lockd_serve.proofs.ListsLemmas.{all_told, answered, none_left, only_told, rising_told, root_told}
use Rattle.lockd_serve.proofs.session_laws.a_list_has_each_file_once.Goals as goal

pub returns : goal.returns
returns c = record {
  reply = answered;
  end = none_left;
  once = rising_told;
  all = all_told;
  root = root_told;
  only = only_told;
}
