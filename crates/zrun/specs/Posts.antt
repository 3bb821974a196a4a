-- What a clause says of what a run's threads are started with.
use Rattle.std.specs.Prelude.{List, ◌∷◌, ◌++◌, map, reverse}
use Rattle.zthreads.specs.declared.endpoint.Endpoint.{Endpoint}
use Rattle.zthreads.specs.Owned.{master_endpoint, server_endpoint}
use Rattle.zrun.specs.declared.posts.Posts.{Posts}
use Rattle.zrun.specs.declared.posts.ServerPost.{ServerPost}
use Rattle.zrun.specs.Origins.{client_endpoints, Run}

-- the endpoints of the servers, the first one first
abbrev pub post_endpoints : List ServerPost → List Endpoint
post_endpoints posts = map (λ (p : ServerPost). server_endpoint p.member) (reverse posts)

-- all endpoints, by index
abbrev pub endpoints_in : Posts → List Endpoint
endpoints_in p = master_endpoint p.master.chief ∷ (post_endpoints p.servers.items ++ client_endpoints p.run.value.items)

-- the run to which they belong
abbrev pub run_in : Posts → Run
run_in p = p.run.value.items
