-- How a tree is stored, by the codes of its parts: a proof distinguishes trees by them.
use Rattle.std.specs.Prelude.{◌≡◌, ℕ, List, Option, None, Some, refl}
use Rattle.std.specs.Coded.{Coded, code_by, coded×, coded_ℕ, coded_list, coded_option}
use Rattle.std.specs.FinMap as finite
use Rattle.ztree.specs.declared.term.Term.{Term}
use Rattle.ztree.specs.declared.term.Term.TheVariants.{Unlimited, Timed, Container}
use Rattle.ztree.specs.declared.node.Node.{Node}
use Rattle.ztree.specs.declared.session.Session.{Session}
use Rattle.ztree.specs.declared.limits.TreeLimits.{TreeLimits}
use Rattle.ztree.specs.Tree.{Tree, Path, Nodes, Sessions}

-- how a path is stored
abbrev pub coded_path : Coded Path
coded_path = coded_list (coded_list coded_ℕ)

-- how a term is stored: none, a TTL, or no TTL
abbrev pub term_code : Term → Option (Option ℕ)
term_code Unlimited = None
term_code (Timed ttl) = Some (Some ttl)
term_code Container = Some None

abbrev pub term_from : Option (Option ℕ) → Term
term_from None = Unlimited
term_from (Some (Some ttl)) = Timed ttl
term_from (Some None) = Container

abbrev pub term_again : (term : Term) → term_from (term_code term) ≡ term
term_again Unlimited = refl
term_again (Timed ttl) = refl
term_again Container = refl

abbrev pub coded_term : Coded Term
coded_term = code_by (Option (Option ℕ)) (coded_option (coded_option coded_ℕ)) term_code term_from term_again

-- how a node is stored
abbrev pub coded_node : Coded Node
coded_node =
    code_by (List ℕ × (ℕ × (ℕ × (ℕ × (ℕ × (ℕ × (ℕ × (ℕ × (ℕ × (ℕ × (ℕ × Term)))))))))))
    (coded× (coded_list coded_ℕ) (coded× coded_ℕ (coded× coded_ℕ (coded× coded_ℕ (coded× coded_ℕ (coded× coded_ℕ (coded× coded_ℕ (coded× coded_ℕ (coded× coded_ℕ (coded× coded_ℕ (coded× coded_ℕ coded_term)))))))))))
    (λ n. (n.bytes, (n.czxid, (n.mzxid, (n.pzxid, (n.ctime, (n.mtime, (n.version, (n.cversion, (n.aversion, (n.owner, (n.seq, n.term))))))))))))
    (λ p. record {
      bytes = p.0;
      czxid = p.1.0;
      mzxid = p.1.1.0;
      pzxid = p.1.1.1.0;
      ctime = p.1.1.1.1.0;
      mtime = p.1.1.1.1.1.0;
      version = p.1.1.1.1.1.1.0;
      cversion = p.1.1.1.1.1.1.1.0;
      aversion = p.1.1.1.1.1.1.1.1.0;
      owner = p.1.1.1.1.1.1.1.1.1.0;
      seq = p.1.1.1.1.1.1.1.1.1.1.0;
      term = p.1.1.1.1.1.1.1.1.1.1.1;
    }) (λ _. refl)

-- how a session is stored
abbrev pub coded_session : Coded Session
coded_session =
    code_by (ℕ × (ℕ × ℕ)) (coded× coded_ℕ (coded× coded_ℕ coded_ℕ))
    (λ s. (s.client, (s.timeout, s.deadline))) (λ p. record { client = p.0; timeout = p.1.0; deadline = p.1.1 }) (λ _. refl)

-- how limits are stored
abbrev pub coded_limits : Coded TreeLimits
coded_limits =
    code_by (ℕ × (ℕ × ℕ)) (coded× coded_ℕ (coded× coded_ℕ coded_ℕ))
    (λ l. (l.nodes, (l.sessions, l.timeout))) (λ p. record { nodes = p.0; sessions = p.1.0; timeout = p.1.1 }) (λ _. refl)

-- how a tree is stored
abbrev pub coded_tree : Coded Tree
coded_tree =
    code_by (Nodes × (Sessions × (ℕ × (ℕ × TreeLimits))))
    (coded× (finite.code coded_path coded_node)
    (coded× (finite.code coded_ℕ coded_session) (coded× coded_ℕ (coded× coded_ℕ coded_limits))))
    (λ t. (t.nodes, (t.sessions, (t.time, (t.zxid, t.limits)))))
    (λ p. record { nodes = p.0; sessions = p.1.0; time = p.1.1.0; zxid = p.1.1.1.0; limits = p.1.1.1.1 }) (λ _. refl)
