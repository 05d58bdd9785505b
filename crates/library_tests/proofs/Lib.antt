mod FreshPasses
