-- How listings are told apart by proofs: as pairs, lists and numbers.
use Rattle.std.specs.Prelude.{ℕ, refl}
use Rattle.std.specs.Coded.{Coded, code_by, coded×, coded_ℕ}
use Rattle.std.specs.FinMap.{FinMap, code}
use Rattle.std.specs.Ordering.{nat_cmp}
use Rattle.fl_dir.specs.contracts.node.Node as node
use Rattle.fl_dir.specs.declared.node.Node.{Node}
use Rattle.fl_dir.specs.Directory.{Listing}

-- a listing, as its six parts
abbrev pub listing_code : Coded Listing
listing_code =
    code_by (FinMap nat_cmp Node × (FinMap nat_cmp ℕ × (ℕ × (ℕ × (ℕ × ℕ)))))
    (coded× (code coded_ℕ (node.the_row).coded)
    (coded× (code coded_ℕ coded_ℕ) (coded× coded_ℕ (coded× coded_ℕ (coded× coded_ℕ coded_ℕ)))))
    (λ d. (d.nodes, (d.files, (d.next_node, (d.next_fh, (d.most_nodes, d.most_files))))))
    (λ t. record {
      nodes = t.0;
      files = t.1.0;
      next_node = t.1.1.0;
      next_fh = t.1.1.1.0;
      most_nodes = t.1.1.1.1.0;
      most_files = t.1.1.1.1.1;
    })
    (λ _. refl)
